pub mod Counts
pub mod HomeLists
pub mod Sound
pub mod Rounds
pub mod Witnesses
pub mod Shared
pub mod Ranges
