pub mod TryingLaws
pub mod Trials
