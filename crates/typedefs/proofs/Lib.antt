-- Laws of walks over fields, of typedefs by their names, and by their numbers.
pub mod Texts
pub mod Numbered
pub mod Placing
pub mod Chains
pub mod Following
pub mod Filling
pub mod Good
pub mod Defined
pub mod Ending
pub mod Deciding
