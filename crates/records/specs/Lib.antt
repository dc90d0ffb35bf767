pub mod Fields
pub mod Guards
pub mod Records
pub mod RunRecords
