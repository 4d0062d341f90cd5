pub mod Decimal
pub mod Adding
pub mod Saying
pub mod Telling
