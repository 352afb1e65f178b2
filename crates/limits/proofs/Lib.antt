-- Laws of the walks over pieces and fields that ask the limits.
pub mod Fits
pub mod Tallies
pub mod Once
pub mod Opens
pub mod Runs
pub mod Questions
pub mod Walked
