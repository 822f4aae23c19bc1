pub mod LookLemmas
pub mod FreeLemmas
pub mod PutLemmas
