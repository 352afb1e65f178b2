-- Laws of texts, how they compare and their order, and moved entries.
pub mod Texts
pub mod Order
pub mod Ordered
pub mod Moves
