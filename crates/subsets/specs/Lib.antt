pub mod Subsets
pub mod Found
