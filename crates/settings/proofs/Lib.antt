pub mod Places
pub mod Format
pub mod Walk
pub mod Overrides
pub mod Emit
pub mod Digits
pub mod Numeral
