-- What a walk over a value finds.
pub mod Value
