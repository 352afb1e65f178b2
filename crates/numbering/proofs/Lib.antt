-- Laws of the names of `%auto` lists: their types, their bounds, and the fields that are added.
pub mod Naming
pub mod Counted
pub mod Bounding
pub mod Narrowing
pub mod Digits
pub mod Marking
pub mod Summing
pub mod Stepping
pub mod Numbers
pub mod Lists
pub mod Completing
