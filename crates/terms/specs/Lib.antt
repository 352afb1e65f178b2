-- Words with their tags, the entries that stand for them, and what a table of entries is.
pub mod Sets
pub mod Entries
pub mod Order
pub mod Joined
pub mod Adding
