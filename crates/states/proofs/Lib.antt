pub mod Quick
pub mod Packed
pub mod Beside
pub mod Fitting
pub mod Around
pub mod Heard
