pub mod Trying
pub mod Decides
