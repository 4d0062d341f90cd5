pub mod Sweep
pub mod Stretches
