pub mod Appends
pub mod Held
pub mod Items
pub mod Nodes
pub mod Tiles
