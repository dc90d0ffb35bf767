pub mod Masks
pub mod Telling
pub mod Truths
