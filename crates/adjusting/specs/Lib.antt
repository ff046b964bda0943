pub mod Emits
pub mod Ends
pub mod Examples
pub mod Laws
pub mod Places
pub mod Rules
pub mod Turns
pub mod Works
