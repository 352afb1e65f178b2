-- What the laws of document 02, order 13, speak of.
pub mod Naming
pub mod Leaving
pub mod Looking
