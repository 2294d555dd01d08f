pub mod Computing
pub mod Cases
pub mod Kept
pub mod Laws
