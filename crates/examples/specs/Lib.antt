pub mod Books
pub mod Giving
pub mod Showing
pub mod Refuting
pub mod Examples
