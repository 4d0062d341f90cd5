pub mod Runs
pub mod Seen
pub mod Backward
pub mod Forward
pub mod Flags
pub mod RowSweep
pub mod Once
