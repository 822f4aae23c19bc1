pub mod Counts
pub mod Item
