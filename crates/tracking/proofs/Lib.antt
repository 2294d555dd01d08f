pub mod Computing
pub mod Cases
pub mod Latest
pub mod Laws
