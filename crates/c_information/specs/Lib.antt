pub mod Information
