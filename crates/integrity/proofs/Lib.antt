-- From the stages to the whole verdict, and what is granted of each record.
pub mod Staging
pub mod Granting
pub mod Holding
pub mod Densing
