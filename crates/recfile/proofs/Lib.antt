-- What each case of an answer tells C, and calls one after another.
pub mod Told
pub mod Added
pub mod Telling
pub mod Chains
pub mod Apart
