pub mod Generator
pub mod Header
pub mod Rounds
