-- What a descriptor lists, with tags, and what a dictionary of it answers.
pub mod Numbered
pub mod Tags
pub mod Terms
pub mod Known
