pub mod Digits
pub mod Entries
pub mod Lines
pub mod Sample
pub mod Stops
