use Rattle.std.proofs.Common.{◌/◌, ◌%◌, ◌≤◌, false, length, get_or, arith, sym, ◌∙◌}
use Rattle.std.proofs.lemmas.Bool.{le-ltb}
use Rattle.std.proofs.lemmas.List.{get_or_past}
use Rattle.std.proofs.lemmas.Nat.Bits.{shr_and_one}
use Rattle.slab_bits.specs.Words.{places_of}
use Rattle.slab_bits.proofs.Words.{place_at, length-places_of}
use Rattle.slab_bits.proofs.wide.Wide.has.Goals as goal

pub returns-then-no-lt-NUMBERS : goal.returns-then-no-lt-NUMBERS
returns-then-no-lt-NUMBERS c =
    let words = c.self.inside.words in
    let place = c.args.no in
    rw (← c.self.view_is, shr_and_one (get_or words (place / 64) 0) (place % 64)) (sym (place_at words place))

pub returns-else-no-lt-NUMBERS : goal.returns-else-no-lt-NUMBERS
returns-else-no-lt-NUMBERS c =
    let words = c.self.inside.words in
    let place = c.args.no in
    let sixteen = c.self.invariant.sixteen in
    let len = length-places_of words in
    let past : length (places_of words) ≤ place = omega arith in
    rw (← c.self.view_is) (le-ltb place 1024 (omega arith) ∙ sym (get_or_past (places_of words) place false past))
