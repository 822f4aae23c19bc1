use Rattle.std.proofs.Common.{rules, ℕ, ◌<◌, ap, sym, subst, ◌∙◌, length-set, None, refl}
use Rattle.smr_clock.specs.declared.clock.Setup.{Setup}
use Rattle.smr_clock.specs.Belongs.{setup_of}
use Rattle.smr_clock.specs.Notes.{seat_knows}
use Rattle.name_rows.specs.declared.names.Part.{Part}
use Rattle.name_rows.specs.Moving.{rest_of_entries, next_entry}
use Rattle.name_rows.proofs.SeatMoves.{split_keeps}
use Rattle.name_rows.proofs.RootSteps.{name_keeps, splits_entry}
use Rattle.name_rows.proofs.RootCalls.{next_named, some_within, still_loose, rest_no_rows, rest_owns, out_no_rows, out_owns, out_no, out_loose}
use Rattle.smr_clock.specs.declared.host.HostAct.TheVariants.{Load}
use Rattle.name_rows.proofs.writing.split_off.Goals as goal

pub seat_step-requires-clause-keeps : goal.seat_step-requires-clause-keeps
seat_step-requires-clause-keeps c = name_keeps _ _ _ c.args.no _ c.requires.here.1 c.key_place-place.ensures

pub seat_split-seat-requires-clause-keeps : goal.seat_split-seat-requires-clause-keeps
seat_split-seat-requires-clause-keeps c =
    let named = next_named (setup_of c.args.clock.now) (seat_knows c.args.root.now.seat) (seat_knows c.seat_step.new.seat) c.args.no c.key_place-place.result c.seat_step.result Load c.requires.here.1 c.key_place-place.ensures c.seat_step.ensures.stepped in
    split_keeps _ _ _ rest_of_entries next_entry c.seat_step.ensures.here.1
    (λ ws ps held here. splits_entry _ ws ps _ _ c.args.no held here (ap (λ (p : Part). p.rows) named ∙ c.args.root.now.no_rows) (ap (λ (p : Part). p.next) named))

pub invariant_of-root : goal.invariant_of-root
invariant_of-root c =
    let named = next_named (setup_of c.args.clock.now) (seat_knows c.args.root.now.seat) (seat_knows c.seat_step.new.seat) c.args.no c.key_place-place.result c.seat_step.result Load c.requires.here.1 c.key_place-place.ensures c.seat_step.ensures.stepped in
    let within = some_within c.args.root.now.kept.items c.args.no c.args.owned c.requires.kept in
    record {
      no_rows = rest_no_rows (seat_knows c.args.root.now.seat) (seat_knows c.seat_step.new.seat) (seat_knows c.seat_split-seat.new.seat) (seat_knows c.seat_split-seat.result) c.args.no c.args.owned c.args.root.now.kept.items
          c.args.root.now.no_rows c.args.root.now.owns c.requires.kept named c.seat_split-seat.ensures.splits;
      owns = rest_owns (seat_knows c.args.root.now.seat) (seat_knows c.seat_step.new.seat) (seat_knows c.seat_split-seat.new.seat) (seat_knows c.seat_split-seat.result) c.args.no c.args.owned c.args.root.now.kept.items
          c.args.root.now.no_rows c.args.root.now.owns c.requires.kept named c.seat_split-seat.ensures.splits;
      loose = still_loose c.args.root.now.kept.items c.args.no within c.args.root.now.loose;
      all = length-set c.args.root.now.kept.items c.args.no None ∙ c.args.root.now.all ∙ ap (λ (s : Setup). s.plan.1) (c.requires.here.1 ∙ sym c.seat_split-seat.ensures.here.1);
    }

pub invariant_of-result : goal.invariant_of-result
invariant_of-result c =
    let named = next_named (setup_of c.args.clock.now) (seat_knows c.args.root.now.seat) (seat_knows c.seat_step.new.seat) c.args.no c.key_place-place.result c.seat_step.result Load c.requires.here.1 c.key_place-place.ensures c.seat_step.ensures.stepped in
    let within = some_within c.args.root.now.kept.items c.args.no c.args.owned c.requires.kept in
    let is = out_no (seat_knows c.args.root.now.seat) (seat_knows c.seat_step.new.seat) (seat_knows c.seat_split-seat.new.seat) (seat_knows c.seat_split-seat.result) c.args.no c.args.owned c.args.root.now.kept.items
    c.args.root.now.no_rows c.args.root.now.owns c.requires.kept named c.seat_split-seat.ensures.splits in
    let long = c.args.root.now.all ∙ ap (λ (s : Setup). s.plan.1) (c.requires.here.1 ∙ sym c.seat_split-seat.ensures.other_here.1) in
    record {
      no_rows = out_no_rows (seat_knows c.args.root.now.seat) (seat_knows c.seat_step.new.seat) (seat_knows c.seat_split-seat.new.seat) (seat_knows c.seat_split-seat.result) c.args.no c.args.owned c.args.root.now.kept.items
          c.args.root.now.no_rows c.args.root.now.owns c.requires.kept named c.seat_split-seat.ensures.splits;
      owns = out_owns (seat_knows c.args.root.now.seat) (seat_knows c.seat_step.new.seat) (seat_knows c.seat_split-seat.new.seat) (seat_knows c.seat_split-seat.result) c.args.no c.args.owned c.args.root.now.kept.items
          c.args.root.now.no_rows c.args.root.now.owns c.requires.kept named c.seat_split-seat.ensures.splits;
      below = subst (λ (m : ℕ). m < (seat_knows c.seat_split-seat.result).setup.plan.1) (sym is) (subst (λ (m : ℕ). c.args.no < m) long within);
      loose = out_loose c.args.root.now.kept.items c.args.no c.args.owned c.args.root.now.loose c.requires.kept;
    }

pub returns : goal.returns
returns c =
    let named = next_named (setup_of c.args.clock.now) (seat_knows c.args.root.now.seat) (seat_knows c.seat_step.new.seat) c.args.no c.key_place-place.result c.seat_step.result Load c.requires.here.1 c.key_place-place.ensures c.seat_step.ensures.stepped in
    record {
      root = search rules;
      words_here = search rules;
      words = (
        refl,
        out_no (seat_knows c.args.root.now.seat) (seat_knows c.seat_step.new.seat) (seat_knows c.seat_split-seat.new.seat) (seat_knows c.seat_split-seat.result) c.args.no c.args.owned c.args.root.now.kept.items
            c.args.root.now.no_rows c.args.root.now.owns c.requires.kept named c.seat_split-seat.ensures.splits,
      );
    }
