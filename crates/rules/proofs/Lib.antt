pub mod Accepting
pub mod Judging
pub mod Choosing
pub mod Testing
pub mod Counting
