-- What the code's shapes stand for, and the words of an enum's text.
pub mod Meaning
pub mod Symbols
