pub mod Rooms
pub mod Homes
pub mod Rounds
pub mod Finishing
pub mod Tallied
pub mod Added
