pub mod First
pub mod Layout
pub mod Codes
pub mod Keys
pub mod Reading
pub mod Written
pub mod Decimals
pub mod Walks
