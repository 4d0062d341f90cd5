pub mod Coming
pub mod Visited
pub mod Going
pub mod Counted
pub mod Figures
pub mod Full
pub mod Led
pub mod Settled
