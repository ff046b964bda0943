pub mod Listed
pub mod Outcomes
pub mod Counts
