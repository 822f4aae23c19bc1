pub mod Asked
pub mod Beginning
pub mod Entries
pub mod Filled
pub mod HallOf
pub mod Headline
pub mod KegLines
pub mod KegSums
pub mod KindCounts
pub mod LimitLines
mod LimitRows
pub mod LinesWith
pub mod NamesFit
mod NameStory
pub mod NameTotals
pub mod OwnCounts
pub mod PlainStands
pub mod Playing
pub mod Primaries
pub mod Pushed
pub mod ReportStands
pub mod WorkerRuns
mod SeatLines
pub mod Staying
mod Steps
pub mod Upto
pub mod WithNames
pub mod WorkerSums
pub mod ZoneFrees
pub mod ComingBack
