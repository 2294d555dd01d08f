pub mod Limits
pub mod Floor
