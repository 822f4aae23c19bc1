pub mod ReadingLemmas
pub mod OrderLemmas
