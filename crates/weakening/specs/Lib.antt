pub mod Weak
pub mod Ends
