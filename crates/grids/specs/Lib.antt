pub mod Grid
pub mod Layout
