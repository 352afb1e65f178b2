-- Laws of edits: what is asked of their places, what they make of the text, and whether it fits.
pub mod PlaceQuestions
pub mod Acting
pub mod Sizes
pub mod Inserting
pub mod Densing
