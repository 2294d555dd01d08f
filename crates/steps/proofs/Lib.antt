pub mod Sizes
pub mod Ways
pub mod Flats
pub mod Records
