-- The laws of totals: sums of values, how large they are, what an accepted edit does to them, and how a value is read.
pub mod Examples
pub mod Sums
pub mod Digits
pub mod Lengths
pub mod Fitting
pub mod Edited
pub mod Changes
pub mod Editing
pub mod Bits
pub mod Stepping
pub mod Folding
pub mod Running
pub mod Walking
pub mod Totalling
pub mod Specials
pub mod Even
