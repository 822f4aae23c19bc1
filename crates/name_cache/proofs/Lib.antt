pub mod Clocks
pub mod Ends
pub mod Items
pub mod Linked
pub mod Locking
pub mod Opening
pub mod Outs
pub mod Passes
pub mod Rebinding
pub mod Rooms
pub mod RowFacts
pub mod Shared
pub mod Since
pub mod Summing
pub mod Taking
pub mod Telling
mod Wanting
