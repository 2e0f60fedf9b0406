pub mod MarksLaws
pub mod SubsetsLaws
pub mod FoundLaws
pub mod NumberedCores
