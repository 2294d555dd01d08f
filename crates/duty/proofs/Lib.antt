pub mod Sizes
pub mod Pairs
pub mod Passes
pub mod Stores
