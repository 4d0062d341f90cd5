pub mod Judged
pub mod Reasons
pub mod Sample
