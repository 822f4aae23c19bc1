pub mod Counts
pub mod FirstPlaces
pub mod Least
pub mod Summed
pub mod Words
pub mod WrappedSums
