pub mod Standing
pub mod Takers
pub mod Sorts
pub mod Order
pub mod Filling
pub mod Literals
pub mod Once
