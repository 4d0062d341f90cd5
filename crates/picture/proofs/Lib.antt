pub mod Drawn
pub mod Closed
