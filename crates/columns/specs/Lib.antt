-- The kinds of a descriptor's `%type` fields, and values held against them.
pub mod Readings
pub mod Meets
pub mod Rows
