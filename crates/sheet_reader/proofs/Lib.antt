pub mod Line
pub mod Fill
pub mod HeadLine
pub mod Whole
