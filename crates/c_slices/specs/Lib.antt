pub mod Slices
pub mod Told
pub mod Calls
