pub mod Tested
pub mod Scanned
pub mod Counted
