-- Texts at places of a file, how they compare and their order, and entries that a sort moves.
pub mod Texts
pub mod Order
pub mod Moves
