pub mod Vectors
pub mod Parts
