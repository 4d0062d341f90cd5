pub mod Audit
pub mod Heading
pub mod Usage
pub mod Room
