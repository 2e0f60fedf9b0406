pub mod LevelLaws
pub mod CanonicalLaws
pub mod LateLaws
pub mod Preemptive
pub mod CoreOrders
