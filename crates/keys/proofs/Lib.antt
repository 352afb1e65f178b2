-- Laws of keys and their entries.
pub mod Order
pub mod Apart
pub mod Prints
pub mod Moves
pub mod Pairs
pub mod Gathering
