pub mod Filter
pub mod Linear
pub mod Information
pub mod SquareRoot
pub mod Cases
pub mod Rust
