-- What an edit can spoil, and why passing falls at most once along inserts.
pub mod Distinct
pub mod Kth
pub mod Bringing
pub mod Passing
pub mod Sizes
pub mod Inserting
pub mod Fronts
pub mod Touching
pub mod Counting
pub mod Edits
pub mod Keys
pub mod Files
pub mod Locating
pub mod Cases
