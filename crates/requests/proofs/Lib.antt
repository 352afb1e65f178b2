-- Laws of requests: a field, a number, a pair cut off from the fields of a request.
pub mod Tagging
pub mod Reading
pub mod Pairing
pub mod Kinding
pub mod Weighing
pub mod Filling
pub mod Building
