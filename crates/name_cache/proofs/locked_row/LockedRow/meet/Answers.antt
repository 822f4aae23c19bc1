use Rattle.std.proofs.Common.{◌≤◌, ◌<◌, ◌+◌, ◌^◌, ◌++◌, ◌∷◌, [], ℕ, List, map, is_some, refl, sym, ap, subst, ◌∙◌}
use Rattle.smr_clock.specs.Belongs.{view}
use Rattle.name_rows.specs.declared.names.Record.{Record}
use Rattle.name_cache.proofs.Clocks.{row_too}
use Rattle.name_cache.proofs.RowFacts.{has_met}
use Rattle.name_cache.proofs.locked_row.LockedRow.meet.Goals as goal

pub invariant_of-self : goal.invariant_of-self
invariant_of-self c =
    let was = c.args.self.now in
    let met = c.meet.ensures in
    record {
      here = row_too c.args.clock.now was.key.value.clock.value c.requires.here.same_clock c.meet.new.row met.here;
      number = met.row.0 ∙ was.number;
      of_row = ap (map (λ (r : Record). r.row)) met.last ∙ was.of_row ∙ ap (λ (n : ℕ). n ∷ []) (sym met.row.0);
      paired = was.paired ∙ ap is_some (sym met.row.2);
      fits = λ guest item is kept. was.fits guest item (sym met.row.2 ∙ is) kept;
      low = λ guest is. subst (λ (n : ℕ). n + 1 < 2 ^ 44) (sym met.row.1) (was.low guest (sym met.row.2 ∙ is));
      since = subst (λ (n : ℕ). was.key.value.version ≤ n) (sym met.row.1) was.since;
    }

pub returns : goal.returns
returns c =
    let was = c.args.self.now in
    let met = c.meet.ensures in
    let v = view c.args.pass.now in
    record {
      met = record {
        identity = refl;
        same = record { last = met.last; version = met.row.1; guest = met.row.2; linked = refl };
        meets = has_met v (view c.meet.new.pass) was
            (met.known ∙ ap (λ (l : List Record). v.host.known ++ l) met.last)
            (λ r i same. subst (λ (n : ℕ). r.version ≤ n) met.row.1 (met.newest r i (same ∙ sym met.row.0)));
      };
      pass = record { own = met.pass_here; phase = met.phase.0; seen = met.seen };
    }
