pub mod Order
pub mod Refusals
pub mod Reading
pub mod Read
pub mod Writing
pub mod Promise
pub mod Impostors
pub mod Length
