pub mod Roads
pub mod Puts
