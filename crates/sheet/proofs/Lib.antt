pub mod Metres
pub mod Text
pub mod Stage
pub mod Tracking
pub mod Reporting
