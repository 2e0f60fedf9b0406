pub mod BlockingLaws
pub mod Demand
pub mod GatherLaws
pub mod LeapLaws
pub mod ResourcesLaws
