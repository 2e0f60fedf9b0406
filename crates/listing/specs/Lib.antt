pub mod Listing
pub mod ListingLaws
pub mod LateLines
pub mod Gives
