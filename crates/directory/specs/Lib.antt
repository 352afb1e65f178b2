-- What the parts of the directory's calls do.
pub mod Blocks
pub mod Rows
