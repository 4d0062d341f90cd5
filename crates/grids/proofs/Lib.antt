pub mod Around
pub mod Layouts
