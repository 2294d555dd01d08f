pub mod Kernels
pub mod RowWise
