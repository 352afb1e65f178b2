-- The names of `%auto` lists, the bounds of their numbers, and the fields that are added.
pub mod Types
pub mod Bounds
pub mod Adding
