pub mod Backward
pub mod Smoother
pub mod Demand3
pub mod Cases
