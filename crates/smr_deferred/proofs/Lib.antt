pub mod Pacing
pub mod Covered
pub mod Oldest
