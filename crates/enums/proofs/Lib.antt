-- Laws of symbols, byte by byte and row by row.
pub mod Enums
pub mod Reading
pub mod Few
pub mod Rows
pub mod Making
