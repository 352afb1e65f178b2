-- A value where it stands in a text.
pub mod Value
pub mod Pieces
pub mod Stretches
pub mod Words
pub mod Likeness
