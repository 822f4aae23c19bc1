pub mod Fields
pub mod Number
pub mod Taking
pub mod TextLines
pub mod CanonicalLine
