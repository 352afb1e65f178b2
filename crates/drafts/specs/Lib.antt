-- What a draft of a record still lacks (document 02, order 8).
pub mod Drafts
pub mod Giving
