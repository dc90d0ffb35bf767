pub mod Growing
pub mod Giving
pub mod Showing
pub mod Refuting
pub mod Turning
pub mod Closing
