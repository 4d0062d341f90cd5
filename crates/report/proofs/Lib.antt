pub mod Granted
pub mod Sample
pub mod Printed
