pub mod Records
pub mod Call
