pub mod Matrices
pub mod Arrays
pub mod Vectors
pub mod Pivots
pub mod Inverses
pub mod Factors
pub mod Computing
pub mod Cases
