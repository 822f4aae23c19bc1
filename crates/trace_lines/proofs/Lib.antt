pub mod Counting
pub mod Cutting
pub mod Following
pub mod Numbers
pub mod OneVerdict
pub mod AppendedLines
