-- Laws of legal names and values and of a field's text.
pub mod IsLegalName
pub mod Plain
pub mod Texts
pub mod Moving
