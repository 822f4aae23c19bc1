use Rattle.std.proofs.Common.{sym, ◌∙◌, refl}
use Rattle.smr_clock.specs.Belongs.{view}
use Rattle.replay_worker.proofs.SeatCalls.{not_both, releases_plain, releases_smr}
use Rattle.replay_worker.proofs.worker.release.Goals as goal

pub returns-then-is_smr-clause-released : goal.returns-then-is_smr-clause-released
returns-then-is_smr-clause-released g c =
    let freed = c.free_smr.ensures.defers in
    let counted = c.free_smr.ensures.counted in
    releases_smr c.args.zone.now c.args.seat.now c.free_smr.new.seat c.args.item (sym c.is_smr.ensures ∙ c.if-is_smr.true)
    (record { put = freed.put; rack = freed.rack; full = λ full. (view c.args.pass.now, view c.free_smr.new.pass, freed.full full); usable = freed.usable; plain = freed.plain })
    (record { counted = counted.ledger; fetches = counted.fetches; same = counted.same; top = counted.top; misses = counted.misses })

pub returns-else-is_smr-clause-released : goal.returns-else-is_smr-clause-released
returns-else-is_smr-clause-released g c =
    let counted = c.free.ensures.counted in
    releases_plain c.args.zone.now c.args.seat.now c.free.new.seat c.args.item (sym c.is_smr.ensures ∙ c.if-is_smr.false) c.free.ensures.freed
    (record { counted = counted.ledger; fetches = counted.fetches; same = counted.same; top = counted.top; misses = counted.misses })

pub returns-then-is_smr-clause-by : goal.returns-then-is_smr-clause-by
returns-then-is_smr-clause-by g c =
    let freed = c.free_smr.ensures.defers in
    record {
      host = c.free_smr.ensures.pass.host;
      plain = λ plain. absurd (not_both c.args.zone.now (sym c.is_smr.ensures ∙ c.if-is_smr.true) plain);
      unseen = λ smr part. freed.unseen part;
      full = λ smr full. freed.full full;
    }

pub returns-else-is_smr-clause-by : goal.returns-else-is_smr-clause-by
returns-else-is_smr-clause-by g c = record {
  host = refl;
  plain = λ _. refl;
  unseen = λ smr part. absurd (not_both c.args.zone.now smr (sym c.is_smr.ensures ∙ c.if-is_smr.false));
  full = λ smr full. absurd (not_both c.args.zone.now smr (sym c.is_smr.ensures ∙ c.if-is_smr.false));
}
