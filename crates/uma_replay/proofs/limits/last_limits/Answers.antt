use Rattle.std.proofs.Common.{◌+◌, ◌<◌, ◌∙◌, ℕ, List, ap, arith, length, subst, sym}
use Rattle.std.proofs.lemmas.Option.{slice_get_within}
use Rattle.trace_text.specs.declared.trace.ZoneHead.{ZoneHead}
use Rattle.trace_text.specs.Lines.{lines_of}
use Rattle.zone_stats.specs.declared.ledger.SeatLedger.{SeatLedger}
use Rattle.uma_replay.specs.Limits.{KeepSomeOf, limits_had}
use Rattle.uma_replay.proofs.LimitLines.{AreTested, AreTested-more, last_had, some_had}
use Rattle.uma_replay.proofs.limits.last_limits.Goals as goal

pub last_of-requires : goal.last_of-requires
last_of-requires c = some_had _ _ _ (c.as_slice-had.ensures.value ∙ c.in_ok-gathered.ensures)

pub loop-place-preserved : goal.loop-place-preserved
loop-place-preserved c =
    let lines = lines_of c.args.rounds.now in
    let place = c.loop-place.place in
    let head = c.index-heads-place.result in
    let own = c.index-ledgers-place.result in
    let had = c.as_slice-had.result.now in
    let are = c.as_slice-had.ensures.value ∙ (c.in_ok-gathered.ensures ∙ ap (λ (h : ZoneHead). limits_had lines place h) (sym c.index-heads-place.is)) in
    let P : List ℕ → Type 0 = λ limits. AreTested lines c.args.heads.now c.args.ledgers.now (place + 1) limits in
    let Q : List SeatLedger → Type 0 = λ ledgers. KeepSomeOf had ledgers in
    let R : List ℕ → Type 0 = λ limits. KeepSomeOf limits own in
    subst P (sym c.in_ok-push.ensures.items)
    (AreTested-more lines c.args.heads.now c.args.ledgers.now place c.loop-place.limits.items head own c.last_of.result c.loop-place.invariant c.index-heads-place.is c.index-ledgers-place.is
    (c.last_of.ensures ∙ last_had place lines head had are) (subst R are (subst Q c.as_slice.ensures c.in_ok-check_ledgers.ensures)))

pub returns-clause-last : goal.returns-clause-last
returns-clause-last c = λ z head at.
    let below : z < length c.args.heads.now = slice_get_within c.args.heads.now z head at in
    c.loop-place.invariant.last z head (omega arith) at

pub returns-clause-kept : goal.returns-clause-kept
returns-clause-kept c = λ z head own at at_own.
    let below : z < length c.args.heads.now = slice_get_within c.args.heads.now z head at in
    c.loop-place.invariant.kept z head own (omega arith) at at_own
