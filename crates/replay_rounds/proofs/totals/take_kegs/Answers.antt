use Rattle.std.proofs.Common.{ℕ, ◌+◌, ◌<◌, ◌∙◌, [], ◌∷◌, ◌++◌, take, ap, sym, subst, is_some, length}
use Rattle.std.proofs.Math.Nat.{le_antisymm}
use Rattle.trace_text.specs.declared.trace.ZoneHead.{ZoneHead}
use Rattle.replay_rounds.proofs.Closing.{keg_kept}
use Rattle.replay_rounds.proofs.Kegs.{kegs_none, kegs_second, kegs_primary, kegs_same, kegs_all}
use Rattle.replay_rounds.proofs.Kept.{fits_kept, few_kept, keeps_none, keeps_more}
use Rattle.replay_rounds.proofs.totals.take_kegs.Goals as goal

pub loop-place-init : goal.loop-place-init
loop-place-init g c = record {
  keeps = keeps_none c.args.workers.now;
  kegs = kegs_none c.args.head.now c.args.zones.now c.args.workers.now c.args.sums.now c.new.result.items c.new-2.result.items c.new.ensures.items c.new-2.ensures.items;
}

pub loop-place-preserved-then-is_some : goal.loop-place-preserved-then-is_some
loop-place-preserved-then-is_some g c =
    let second = ap (λ (l : ZoneHead). is_some l.parent) c.index-lines-place.is ∙ sym c.if-is_some.ensures in
    record {
      keeps = c.loop-place.invariant.keeps;
      kegs =
          kegs_second c.args.head.now c.args.zones.now c.args.workers.now c.args.sums.now c.as_slice-lines.result.now c.loop-place.place c.index-lines-place.result c.loop-place.kegs.censuses.items c.loop-place.kegs.tallies.items
          c.loop-place-test.true c.index-lines-place.is second c.loop-place.invariant.kegs;
    }

pub take_keg-requires-clause-place : goal.take_keg-requires-clause-place
take_keg-requires-clause-place g c = let P : ℕ → Type 0 = λ n. c.loop-place.place < n in subst P (ap length c.as_slice-lines.ensures ∙ sym c.requires.can.zones.count) c.loop-place-test.true

pub take_keg-requires-clause-can : goal.take_keg-requires-clause-can
take_keg-requires-clause-can g c = record {
  head = c.requires.can.head;
  zones = c.requires.can.zones;
  fits = fits_kept c.args.zones.now c.args.clock.now c.args.workers.now c.loop-place.workers c.loop-place.invariant.keeps c.requires.can.fits;
  few = few_kept c.args.workers.now c.loop-place.workers c.loop-place.invariant.keeps c.requires.can.few;
}

pub loop-place-preserved : goal.loop-place-preserved
loop-place-preserved g c =
    let primary = ap (λ (l : ZoneHead). is_some l.parent) c.index-lines-place.is ∙ sym c.if-is_some.ensures in
    let census = c.in_ok-census.census in
    let tally = c.in_ok-census.tally in
    let keg = keg_kept c.args.head.now c.args.zones.now c.args.workers.now c.loop-place.workers c.args.sums.now c.loop-place.place census tally c.loop-place.invariant.keeps c.in_ok-census.ensures.keg in
    let kegs =
    kegs_primary c.args.head.now c.args.zones.now c.args.workers.now c.args.sums.now c.as_slice-lines.result.now c.loop-place.place c.index-lines-place.result c.loop-place.kegs.censuses.items c.loop-place.kegs.tallies.items census tally
    c.loop-place-test.true c.index-lines-place.is primary keg c.loop-place.invariant.kegs
    in
    record {
      keeps = keeps_more c.args.workers.now c.loop-place.workers c.take_keg.new.workers c.loop-place.invariant.keeps c.in_ok-census.ensures.workers;
      kegs = kegs_same c.args.head.now c.args.zones.now c.args.workers.now c.args.sums.now (take (c.loop-place.place + 1) c.as_slice-lines.result.now) (c.loop-place.kegs.censuses.items ++ census ∷ []) c.push.new.self.items
          (c.loop-place.kegs.tallies.items ++ tally ∷ []) c.push-in-loop-place.new.self.items c.in_ok-push.ensures.items c.in_ok-push-2.ensures.items kegs;
    }

pub returns-clause-kegs : goal.returns-clause-kegs
returns-clause-kegs g c =
    kegs_all c.args.head.now c.args.zones.now c.args.workers.now c.args.sums.now c.as_slice-lines.result.now c.args.head.now.zones c.loop-place.place c.loop-place.kegs.censuses.items c.loop-place.kegs.tallies.items
    (le_antisymm c.loop-place.auto.place-end c.loop-place-test.false) c.as_slice-lines.ensures c.loop-place.invariant.kegs
