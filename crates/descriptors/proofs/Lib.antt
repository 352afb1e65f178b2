-- The laws of sizes, of tests of all fields and of values that hold the limits; of what names ask, of the fields of a descriptor, of the names met so far, and of the
-- records of a file.
pub mod Folds
pub mod Sizing
pub mod Limits
pub mod Wording
pub mod Contents
pub mod Names
pub mod Judging
pub mod Walks
