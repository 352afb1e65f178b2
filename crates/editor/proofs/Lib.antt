-- Laws of one edit and of runs of requests.
pub mod Making
pub mod Editing
pub mod Running
