-- What a descriptor that passed questions 4, 6 and 7 is, the records that it rules, and what a walk over them tells.
pub mod Tallies
pub mod Tables
pub mod Members
pub mod Described
pub mod Chunks
