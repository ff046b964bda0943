pub mod Others
pub mod Traps
pub mod Paddings
