pub mod Promises
pub mod Talking
