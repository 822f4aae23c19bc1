mod Same
mod Words
mod Passing
pub mod Tallies
mod Sums
pub mod Outsides
