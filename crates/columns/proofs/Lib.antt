-- Laws of kinds and of values held against them.
pub mod Meeting
pub mod Shapes
pub mod Granted
pub mod Ends
pub mod Filling
pub mod Rows
pub mod Tags
pub mod Named
