pub mod Stores
pub mod Rows
pub mod Pivots
pub mod Elimination
