pub mod View
pub mod Named
