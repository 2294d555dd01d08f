pub mod Held
pub mod Call
