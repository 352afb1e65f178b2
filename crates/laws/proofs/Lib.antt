-- Laws that no code cites: what a reader asks of the definitions, and computed examples.
pub mod Wider
pub mod Characters
pub mod Lookups
pub mod Directories
pub mod Sendings
pub mod Singulars
pub mod Numberings
pub mod Completions
pub mod Traps
