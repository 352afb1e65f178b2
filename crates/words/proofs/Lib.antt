-- The laws of words, of parts, of trimming and of names, by index.
pub mod Spans
pub mod Decoded
pub mod Finding
pub mod Splitting
pub mod Trimming
pub mod IsName
pub mod RuleNames
