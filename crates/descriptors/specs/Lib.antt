-- What the code's answers say of a descriptor and of its size rule.
pub mod Sizes
pub mod Contents
pub mod Names
