pub mod Fusion
