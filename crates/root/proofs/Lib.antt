pub mod Whole
pub mod Patterns
pub mod Scaled
pub mod Shift
pub mod Roots
pub mod Grid
pub mod Law
