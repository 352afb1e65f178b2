-- Find by expression (document 02, order 11): the grammar, its reader, its meaning, the answer of the call, and what the code keeps.
pub mod Expressions
pub mod Reading
pub mod Meaning
pub mod Found
pub mod Programs
pub mod Tokens
pub mod Rows
pub mod Walks
