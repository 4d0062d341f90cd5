pub mod Spots
pub mod Nodes
pub mod Outcomes
