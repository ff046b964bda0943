pub mod Parts
pub mod Trees
pub mod Ways
pub mod Faults
pub mod Depths
