pub mod Enumerating
pub mod EveryCore
