use Rattle.std.proofs.Common.{rules, sym, subst, refl, ◌∙◌, inl, inr, arith}
use Rattle.std.specs.List.{All}
use Rattle.std.proofs.lemmas.List.Elements.{All-nil}
use Rattle.uma_seat.specs.Seating.{home_of, clock_of}
use Rattle.uma_bucket.specs.Shelved.{IsShelvedAt, IsShelvedOf}
use Rattle.std.proofs.lemmas.List.{length-map}
use Rattle.uma_seat.specs.Stack.{stack_of, loose_stack}
use Rattle.uma_seat.proofs.RowSteps.{same_stack}
use Rattle.uma_seat.proofs.seat.SeatCache.of_size.Goals as goal

pub invariant_of-result-clause-plain_home : goal.invariant_of-result-clause-plain_home
invariant_of-result-clause-plain_home g c = c.in_ok-plain.ensures.made.home (home_of c.args.seating)

pub invariant_of-result-clause-freed_home : goal.invariant_of-result-clause-freed_home
invariant_of-result-clause-freed_home g c = c.in_ok-freed.ensures.made.home (home_of c.args.seating)

pub invariant_of-result-clause-shelf_home : goal.invariant_of-result-clause-shelf_home
invariant_of-result-clause-shelf_home g c = let P = IsShelvedAt (home_of c.args.seating) in subst (All P) (sym c.in_ok-rack.ensures.made.shelf) (All-nil P)

pub invariant_of-result-clause-shelf_clock : goal.invariant_of-result-clause-shelf_clock
invariant_of-result-clause-shelf_clock g c = let P = IsShelvedOf (clock_of c.args.seating) in subst (All P) (sym c.in_ok-rack.ensures.made.shelf) (All-nil P)

pub returns : goal.returns
returns g c = record {
  made = record {
    seated = refl;
    size_kept = refl;
    top = same_stack _ _ _ _ c.in_ok-top.ensures.empty c.in_ok-top.ensures.size;
    plain = c.in_ok-plain.ensures.made.empty;
    plain_count = length-map c.in_ok-plain.plain.buckets.items stack_of ∙ c.in_ok-plain.ensures.made.len ∙ c.plain_domains.ensures;
    freed = c.in_ok-freed.ensures.made.empty;
    freed_count = length-map c.in_ok-freed.freed.buckets.items loose_stack ∙ c.in_ok-freed.ensures.made.len ∙ c.freed_domains.ensures;
    spares = c.in_ok-rack.ensures.made.spares;
    shelf = c.in_ok-rack.ensures.made.shelf;
    ledger = c.new.ensures.ledger;
    fetches = c.new.ensures.fetches;
    fails_kept = c.new.ensures.table;
    misses_kept = refl;
  };
  ports = refl;
  out_of_range = λ out. elim out [
    | inl below ↦ absurd (omega (arith, below, c.requires.least))
    | inr above ↦ absurd (omega (arith, above, c.requires.most))
  ];
  err = search rules;
}
