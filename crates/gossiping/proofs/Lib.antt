pub mod Turns
pub mod Texts
pub mod Read
