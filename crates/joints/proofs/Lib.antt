-- A text made dense where it stands, and what is left of its fields.
pub mod Joints
pub mod Fields
