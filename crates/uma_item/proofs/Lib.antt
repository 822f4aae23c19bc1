pub mod Passing
pub mod Same
