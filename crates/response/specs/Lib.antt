pub mod Blocking
pub mod Equation
pub mod Load
pub mod Views
pub mod Agreement
pub mod Resources
pub mod Timing
pub mod TimingLaws
