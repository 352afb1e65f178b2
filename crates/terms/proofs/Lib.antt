-- Laws of sets of tags, of entries and of tables.
pub mod Tests
pub mod Sets
pub mod Prints
pub mod Order
pub mod Moves
pub mod Merging
pub mod Search
pub mod Joining
pub mod Adding
pub mod Tables
