mod Entries
mod Kept
mod Domains
mod Given
mod Brought
mod Answered
