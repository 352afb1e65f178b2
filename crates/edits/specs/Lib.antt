-- What an edit does to a text.
pub mod Splices
pub mod Places
pub mod Inserts
