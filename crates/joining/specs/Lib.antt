pub mod Joining
pub mod SideBySide
pub mod Joins
