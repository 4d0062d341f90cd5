pub mod Tools
pub mod Mesh
pub mod Steps
pub mod Cells
pub mod Fill
pub mod Answers
pub mod Order
pub mod Promise
