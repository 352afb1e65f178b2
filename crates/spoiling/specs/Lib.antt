-- What an edit touches, brings and keeps; records inserted one after another.
pub mod Effects
pub mod Inserts
