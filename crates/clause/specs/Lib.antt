pub mod Bit
pub mod Tests
pub mod Refusals
pub mod Meaning
pub mod Sets
