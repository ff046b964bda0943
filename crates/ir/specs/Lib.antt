pub mod Faults
pub mod Tables
pub mod Views
pub mod Checks
