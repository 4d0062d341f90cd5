pub mod Chance
pub mod Links
pub mod Rounds
pub mod Figures
pub mod Promise
