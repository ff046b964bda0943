pub mod Looking
pub mod Fronts
pub mod Tails
pub mod Fresh
pub mod Wrongs
