-- Merging a spare file into a main file; how a merge may be computed.
pub mod Merging
pub mod Appending
pub mod Texts
