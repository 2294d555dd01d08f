pub mod Matrix
pub mod Array
pub mod Inverse
pub mod Cholesky
pub mod Values
pub mod Cases
pub mod Promise
