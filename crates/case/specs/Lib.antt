pub mod View
pub mod Calling
pub mod Verdict
pub mod Looping
