pub mod Steps
pub mod One
