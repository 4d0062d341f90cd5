pub mod Words
pub mod Transfer
pub mod Room
