pub mod Blocks
pub mod Depth
pub mod Stack
pub mod Weave
pub mod Sight
pub mod Examples
