pub mod Fields
pub mod Promises
pub mod Talking
