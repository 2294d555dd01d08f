pub mod Spaced
pub mod Series
pub mod Serials
pub mod Banks
pub mod Readings
pub mod Steps
pub mod Mixes
pub mod Rowing
