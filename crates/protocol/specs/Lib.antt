pub mod State
pub mod Calls
pub mod Causes
pub mod Cores
pub mod Answers
pub mod History
pub mod Promise
