pub mod Names
pub mod Quotes
