pub mod Readings
pub mod Storing
pub mod Searching
pub mod Told
pub mod Ways
