-- What is read from a request, place by place.
pub mod Fields
pub mod Pairs
pub mod Kinds
pub mod Writes
