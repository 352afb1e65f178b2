-- What one change leaves of a text and of the buffer that it stands in.
pub mod Space
