pub mod Inverse
pub mod Members
pub mod Words
