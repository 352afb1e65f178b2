-- Fields of listed names, marked so that two of one name with one value have the same mark.
pub mod Marks
pub mod Gathered
