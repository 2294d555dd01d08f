pub mod Weights
pub mod Root
pub mod Nearest
pub mod Part
