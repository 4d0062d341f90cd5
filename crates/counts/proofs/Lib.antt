pub mod Tally
pub mod Counted
