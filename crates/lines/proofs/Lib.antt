-- Laws of the readers.
pub mod Scans
pub mod Cuts
pub mod Heads
pub mod Extents
pub mod Nexts
pub mod Faultless
pub mod Owned
pub mod Shapes
pub mod Over
pub mod Parts
pub mod Inside
