-- What the answers of the lookups stand for.
pub mod Answers
pub mod Names
