pub mod Text
pub mod Room
