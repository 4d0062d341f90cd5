pub mod Rows
pub mod Stretches
pub mod Added
pub mod Written
