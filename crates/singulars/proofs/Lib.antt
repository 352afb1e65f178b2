-- Laws of marks, of the names that are listed, and of the walk that gathers entries.
pub mod Lists
pub mod Marks
pub mod Room
pub mod Gathering
