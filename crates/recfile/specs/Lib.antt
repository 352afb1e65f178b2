-- Calls from C, one after another.
pub mod Chains
pub mod Apart
