-- Laws of moving, of a text laid into the room that was made, and of what edits leave.
pub mod Opening
pub mod Inserted
pub mod Left
