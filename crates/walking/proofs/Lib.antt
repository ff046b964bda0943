mod Lefts
mod BodyLefts
pub mod Extending
pub mod Holding
pub mod Steps
pub mod Settling
pub mod Mapped
pub mod WholeWalk
pub mod Accepting
pub mod ModuleKeeps
pub mod Numbering
pub mod Stopping
pub mod Sending
pub mod BodyKeeps
