pub mod Track
pub mod Laws
pub mod Cases
