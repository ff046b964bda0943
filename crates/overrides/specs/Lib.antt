pub mod Keys
pub mod Settling
pub mod Values
pub mod Standing
