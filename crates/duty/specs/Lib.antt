pub mod Buffer
pub mod Passed
pub mod Promise
