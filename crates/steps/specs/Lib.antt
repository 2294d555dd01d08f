pub mod Step
pub mod Flat
