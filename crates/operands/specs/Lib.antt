pub mod Faults
pub mod Operands
pub mod Walk
