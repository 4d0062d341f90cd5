pub mod Layers
pub mod Table
pub mod Following
pub mod Trails
pub mod Routing
pub mod Spreading
