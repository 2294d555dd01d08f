pub mod Pass
pub mod Call
