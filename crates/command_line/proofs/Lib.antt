pub mod PlainWords
pub mod Numbered
pub mod Levels
pub mod Options
pub mod Read
pub mod Answered
