pub mod Flood
pub mod Label
