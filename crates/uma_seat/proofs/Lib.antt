pub mod RowSteps
pub mod OntoShelf
pub mod Same
pub mod Crossing
pub mod SumSteps
pub mod Usable
