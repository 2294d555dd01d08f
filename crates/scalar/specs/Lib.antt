pub mod Number
pub mod Constants
pub mod Promise
