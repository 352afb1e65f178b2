-- The symbols of `enum` types, and what a table of them answers.
pub mod Enums
pub mod Rows
