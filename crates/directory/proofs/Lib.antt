-- The entries of a file by a walk over its records; the number of sets and an edit by the file's case; entries written one by one.
pub mod Walks
pub mod Blocks
pub mod Heads
pub mod Entries
pub mod Files
pub mod Rows
