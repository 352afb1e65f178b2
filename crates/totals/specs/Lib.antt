-- Totals of a field, how a value is read for them, and how values are added.
pub mod Totals
pub mod Figures
pub mod Adding
pub mod Parts
pub mod Plain
