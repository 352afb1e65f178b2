-- What is counted of a descriptor's fields, a record that goes on, and what questions 3, 4 and 5 say.
pub mod Counts
pub mod Opens
pub mod Bounds
