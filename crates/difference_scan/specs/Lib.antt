pub mod Scan
pub mod Turns
pub mod Listing
pub mod ScanLaws
pub mod TurnLaws
pub mod WrittenLaws
pub mod ListingLaws
