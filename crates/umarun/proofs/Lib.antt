mod MadeFew
mod MadeText
mod Outcomes
mod Shown
mod Counting
mod Knowing
mod Moving
mod Ranges
pub mod Shared
mod ReadTraces
