pub mod Small
pub mod Promises
pub mod Tight
