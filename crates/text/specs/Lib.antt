pub mod Calls
pub mod Fields
pub mod Reading
pub mod Texts
pub mod Promise
