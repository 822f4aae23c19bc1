use Rattle.std.proofs.Common.{◌≡◌, ℕ, ◌+◌, ◌*◌, ◌/◌, ◌%◌, ◌≤◌, ◌<◌, ◌^◌, List, length, get_or, Option, Some, None, arith}
use Rattle.std.specs.Option.{IfSome, IfNone}
use Rattle.slab_bits.specs.Members.{IsLeastFrom, HasNoneFrom}
use Rattle.slab_bits.specs.Words.{places_of}
use Rattle.slab_bits.proofs.Least.{from_bit, IsLeastFrom-rest, IsLeastFrom-later, HasNoneFrom-later, HasNoneFrom-past}
use Rattle.slab_bits.proofs.Words.{clear_fits}
use Rattle.slab_bits.proofs.bits.Bits.next.Goals as goal

least_later : (o : Option ℕ) (words : List ℕ) (from : ℕ) → from_bit (get_or words (from / 64) 0) (from % 64) ≡ 0
    → IfSome o (IsLeastFrom (places_of words) (64 * (from / 64 + 1))) → IfSome o (IsLeastFrom (places_of words) from)
least_later None words from clear is = is
least_later (Some place) words from clear is = IsLeastFrom-later words from clear place is

none_later : (o : Option ℕ) (words : List ℕ) (from : ℕ) → from_bit (get_or words (from / 64) 0) (from % 64) ≡ 0
    → IfNone o (HasNoneFrom (places_of words) (64 * (from / 64 + 1))) → IfNone o (HasNoneFrom (places_of words) from)
none_later None words from clear none = HasNoneFrom-later words from clear none
none_later (Some place) words from clear none = none

pub returns-then-from-ge-PLACES-clause-none : goal.returns-then-from-ge-PLACES-clause-none
returns-then-from-ge-PLACES-clause-none c =
    let four : length c.self.inside.words ≤ 4 = omega (arith, c.self.told) in
    rw (← c.self.view_is) (HasNoneFrom-past c.self.inside.words c.args.from four c.if-from-ge-PLACES.true)

pub returns-then-rest-eq0-clause-least : goal.returns-then-rest-eq0-clause-least
returns-then-rest-eq0-clause-least c =
    rw (← c.self.view_is) (least_later c.first_in.result c.self.inside.words c.args.from c.if-rest-eq0.true c.first_in.ensures.least)

pub returns-then-rest-eq0-clause-none : goal.returns-then-rest-eq0-clause-none
returns-then-rest-eq0-clause-none c =
    rw (← c.self.view_is) (none_later c.first_in.result c.self.inside.words c.args.from c.if-rest-eq0.true c.first_in.ensures.none)

pub returns-else-rest-eq0-clause-least : goal.returns-else-rest-eq0-clause-least
returns-else-rest-eq0-clause-least c =
    let words = c.self.inside.words in
    let from = c.args.from in
    let fit : from_bit (get_or words (from / 64) 0) (from % 64) < 2 ^ 64 = clear_fits (get_or words (from / 64) 0) _ (c.self.invariant.fit (from / 64)) in
    rw (← c.self.view_is) (IsLeastFrom-rest words from (omega arith) fit)
