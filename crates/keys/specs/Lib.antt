-- Keys, their entries, and the order that they are sorted by.
pub mod Marks
pub mod Keys
pub mod Order
pub mod Gathered
