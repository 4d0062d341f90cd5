pub mod Picture
pub mod Room
