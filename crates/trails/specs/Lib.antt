pub mod Spread
pub mod Table
