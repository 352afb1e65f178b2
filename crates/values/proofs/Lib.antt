-- Laws of values where they stand.
pub mod Decoding
pub mod Backwards
pub mod Values
pub mod Pieces
pub mod Words
pub mod Splitting
pub mod Parts
pub mod Counts
pub mod Tests
pub mod Likenesses
pub mod Endings
