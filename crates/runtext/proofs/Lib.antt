pub mod Telling
pub mod Reading
pub mod Judging
