pub mod Text
pub mod Fields
pub mod LineLaws
pub mod Lines
pub mod Asking
pub mod Accepted
pub mod Written
pub mod WrittenLaws
