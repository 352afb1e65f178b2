-- Count, fetch, view and the sets' names: of a text that is known to be readable, and of a buffer.
pub mod Looking
pub mod Names
pub mod Buffers
pub mod Meeting
