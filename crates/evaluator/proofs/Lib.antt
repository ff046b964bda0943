pub mod Growing
pub mod Standing
pub mod Operators
pub mod Tracking
