pub mod Formats
pub mod Nearest
pub mod Agrees
pub mod Shifts
pub mod Doubles
pub mod Literals
pub mod Conversion
pub mod Examples
