mod Truth
mod Giving
mod Showing
mod Timing
mod Refuting
