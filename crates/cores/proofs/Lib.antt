pub mod Marking
pub mod Rows
pub mod Sweeping
pub mod Coring
