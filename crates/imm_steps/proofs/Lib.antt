pub mod Ways
pub mod Banks
pub mod Mixes
pub mod Holders
