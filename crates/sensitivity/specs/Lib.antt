pub mod Longest
pub mod Sensitivity
pub mod Halving
