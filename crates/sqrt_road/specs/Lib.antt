pub mod Road
