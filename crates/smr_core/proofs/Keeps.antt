-- For each kind of step a lemma that it keeps the law, from every state in which the law holds.
pub mod Looks
pub mod EnterLoad
pub mod EnterCheck
pub mod PollScan
pub mod Presences
pub mod AdvanceLoads
pub mod PollLoads
pub mod Stores
pub mod Swaps
pub mod Splits
pub mod Joins
pub mod OtherWords
pub mod Memory
