-- What a plan of a request and a run of requests are to the code.
pub mod Plans
pub mod Runs
pub mod Overs
