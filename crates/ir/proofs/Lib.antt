pub mod Firsts
pub mod Limits
