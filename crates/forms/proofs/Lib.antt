pub mod Splits
pub mod Leading
pub mod Rising
pub mod Listing
pub mod Through
