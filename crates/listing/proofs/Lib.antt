pub mod GivesLaws
pub mod Short
pub mod Showing
