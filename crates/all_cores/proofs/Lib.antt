pub mod EveryCoreLaws
pub mod EnumeratingLaws
pub mod Enumerations
