-- The fields of a part from a byte on, the typedefs by name, their chains by number, and as structs.
pub mod Walks
pub mod Names
pub mod Targets
pub mod Typedefs
