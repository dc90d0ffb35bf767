pub mod Drafting
pub mod Consulting
