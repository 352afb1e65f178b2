-- The questions in stages.
pub mod Stages
