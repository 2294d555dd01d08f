pub mod Columns
pub mod Downdates
pub mod Predictions
pub mod Components
pub mod Updates
pub mod Maps
