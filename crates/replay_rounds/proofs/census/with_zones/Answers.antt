use Rattle.std.proofs.Common.{ℕ, ◌<◌, [], sym, subst, get_or}
use Rattle.std.proofs.lemmas.Option.{slice_get-get_or}
use Rattle.uma_bucket.specs.declared.shelved.Sums.{Sums}
use Rattle.replay_rounds.proofs.Adding.{added_none, added_room, added_more, added_all, same_default}
use Rattle.replay_rounds.proofs.census.with_zones.Goals as goal

-- what a place past the end would have
none : Sums
none = record { tally = record { keg_inits = 0; keg_finis = 0; zones = [] }; deferred = 0 }

pub loop-number-init : goal.loop-number-init
loop-number-init c = added_none c.args.place c.args.lines.now c.args.sums.now c.args.tally c.requires.room

pub add_zone-requires-clause-room : goal.add_zone-requires-clause-room
add_zone-requires-clause-room c = added_room c.args.place c.args.lines.now c.args.sums.now c.loop-number.number c.args.tally c.loop-number.all c.loop-number-test.true c.requires.most c.loop-number.invariant

pub add_zone-requires-clause-small : goal.add_zone-requires-clause-small
unfolding none
add_zone-requires-clause-small c =
    let P : ℕ → Type 0 = λ n. c.loop-number.number < n in
    let also = subst P (sym c.requires.count) c.loop-number-test.true in
    c.requires.small c.loop-number.number (get_or c.args.sums.now c.loop-number.number none) (slice_get-get_or c.args.sums.now c.loop-number.number none also)

pub loop-number-preserved : goal.loop-number-preserved
unfolding none
loop-number-preserved c =
    let P : ℕ → Type 0 = λ n. c.loop-number.number < n in
    let also = subst P (sym c.requires.count) c.loop-number-test.true in
    let s = get_or c.args.sums.now c.loop-number.number none in
    added_more c.args.place c.args.lines.now c.args.sums.now c.loop-number.number c.args.tally c.loop-number.all c.add_zone.new.all c.index-lines-number.result s c.loop-number-test.true also c.index-lines-number.is
    (same_default c.args.sums.now c.loop-number.number none s also) (c.requires.small c.loop-number.number s (slice_get-get_or c.args.sums.now c.loop-number.number none also)) c.add_zone.ensures c.loop-number.invariant

pub returns : goal.returns
returns c = added_all c.args.place c.args.lines.now c.args.sums.now c.loop-number.number c.args.tally c.loop-number.all c.loop-number-test.false c.loop-number.invariant
