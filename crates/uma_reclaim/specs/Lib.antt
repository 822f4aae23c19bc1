pub mod Given
pub mod Cached
pub mod Told
pub mod Frames
pub mod Emptied
pub mod Reclaimed
