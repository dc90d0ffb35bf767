pub mod Marks
pub mod Cored
