pub mod Shapes
pub mod Computing
pub mod Cases
