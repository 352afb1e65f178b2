-- What a descriptor's granted questions mean for the walks, and a set's number from its records'.
pub mod Regions
pub mod Sets
pub mod Fields
pub mod TallyNo
pub mod Leasts
pub mod Walking
pub mod Granted
pub mod Room
pub mod Chunks
pub mod Keys
pub mod Whole
pub mod Rulebooks
