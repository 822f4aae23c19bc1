mod Balances
mod Censused
mod Extremes
mod Fetches
mod Fills
mod FreedWaits
mod Locked
mod Made
mod NewSeats
mod OneFetch
mod Opened
mod Prealloc
mod Reused
mod Rights
mod Sealed
mod Seats
mod Serves
mod Settled
mod Shelves
mod Tried
mod Trimmed
pub mod DomainSeats
pub mod DomainShelves
pub mod Found
pub mod Listings
pub mod Ported
pub mod Looks
pub mod Puts
pub mod Shared
