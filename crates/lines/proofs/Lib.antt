pub mod Placing
pub mod Citing
pub mod Forcing
pub mod Guarding
pub mod Writing
