pub mod Differences
pub mod Paths
pub mod Offered
pub mod Entries
pub mod Promise
