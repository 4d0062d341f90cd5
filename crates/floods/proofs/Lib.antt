pub mod Steps
pub mod Parts
pub mod Boxes
pub mod Labels
pub mod Few
pub mod Turns
pub mod Once
