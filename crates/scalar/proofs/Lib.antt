pub mod Abs
pub mod Product
pub mod Sum
