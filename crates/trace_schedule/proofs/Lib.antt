pub mod Steps
pub mod ScheduleFollowing
pub mod ScheduleLemmas
pub mod ScheduleRange
pub mod ScheduleLaws
