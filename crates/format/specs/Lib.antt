pub mod Format
pub mod Entry
pub mod Promise
