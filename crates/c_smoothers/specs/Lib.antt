pub mod Smoother
pub mod Call
