pub mod Arrays
pub mod Steps
pub mod Outputs
pub mod Call
