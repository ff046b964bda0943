pub mod Values
pub mod Layers
pub mod Keeps
pub mod Finds
pub mod Wholes
pub mod Examples
