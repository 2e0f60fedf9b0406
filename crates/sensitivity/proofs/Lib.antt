pub mod ExecutionLaws
pub mod HalvingLaws
pub mod SensitivityLaws
pub mod Figures
