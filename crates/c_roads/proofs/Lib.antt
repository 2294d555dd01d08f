pub mod Roads
pub mod Planes
