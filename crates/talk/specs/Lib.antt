pub mod State
pub mod Sound
pub mod Hear
pub mod Entries
pub mod Rounds
pub mod Promise
pub mod Calls
