pub mod Mixing
pub mod Cases
pub mod Laws
