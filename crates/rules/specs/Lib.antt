pub mod Marks
pub mod Entry
pub mod Promise
