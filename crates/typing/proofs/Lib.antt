-- The laws of symbols, of comments, of uuids, of types by their first word, and of values.
pub mod Spelling
pub mod Comments
pub mod Uuids
pub mod TypeHeads
pub mod Meeting
