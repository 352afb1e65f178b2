-- Laws of what a draft still lacks.
pub mod Distinct
pub mod Filling
pub mod Answers
pub mod Giving
pub mod Listing
pub mod Asking
