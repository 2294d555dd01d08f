pub mod Sized
pub mod Cells
pub mod Stores
