pub mod ScheduleGrammar
pub mod ScheduleShown
pub mod ScheduleText
pub mod ScheduleLaws
pub mod Words
