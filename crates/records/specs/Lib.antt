-- Where the records and fields of a file stand.
pub mod Places
pub mod Sets
pub mod Walk
pub mod Fields
pub mod Named
pub mod Heads
