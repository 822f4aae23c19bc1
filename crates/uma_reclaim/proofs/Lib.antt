mod Rows
mod Seats
mod Shelves
mod Taken
mod Told
mod Passes
pub mod Turns
