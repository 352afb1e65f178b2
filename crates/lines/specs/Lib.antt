-- What a walk over the bytes finds, by the definitions of format.
pub mod Line
pub mod Piece
