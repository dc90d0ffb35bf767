pub mod Standings
pub mod Endings
pub mod Promising
