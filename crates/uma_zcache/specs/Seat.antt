-- Own: what contracts see of a seat and of its stack.
use Rattle.std.specs.Prelude.{◌≡◌, ℕ, List}
use Rattle.deed_book.specs.declared.deed.Cause.{Cause}
use Rattle.deed_book.specs.Deed.{TableId}
use Rattle.deed_book.specs.FailShare.{share_table, causes_in}
use Rattle.uma_zcache.specs.declared.cache.Held.{Held}
use Rattle.uma_zcache.specs.declared.cache.ZSeat.{ZSeat}
use Rattle.uma_zcache.specs.Stack.{stack_items, stack_size}

-- the items on its stack, the last put at the end
abbrev pub held_in : ZSeat → List Held
held_in seat = stack_items seat.stack

-- how many items its stack has room for
abbrev pub bucket_of : ZSeat → ℕ
bucket_of seat = stack_size seat.stack

-- the fail book that its share is of, and the causes of the refusals that it met
abbrev pub seat_fails : ZSeat → TableId
seat_fails seat = share_table seat.share

abbrev pub seat_causes : ZSeat → List Cause
seat_causes seat = causes_in seat.share

-- it is the same seat: of the same fail book, with room for as many items
pub record IsSameSeat (old new : ZSeat) : Type 0 where
  pub bucket : bucket_of new ≡ bucket_of old
  pub fails : seat_fails new ≡ seat_fails old
