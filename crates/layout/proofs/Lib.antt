pub mod Places
pub mod Rows
pub mod Loops
pub mod Parts
pub mod Calls
