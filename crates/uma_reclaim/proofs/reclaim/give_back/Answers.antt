use Rattle.std.proofs.Common.{◌≡◌, ◌<◌, ℕ, List, [], ◌∷◌, ◌++◌, All, length, map, sum_by, fold, flat_map, sym, ap, ◌∙◌, subst, rules, arith}
use Rattle.std.specs.declared.snapshot.Snapshot.{Snapshot}
use Rattle.std.proofs.lemmas.List.{length-append, length-map}
use Rattle.smr_clock.specs.Belongs.{view}
use Rattle.uma_domain.specs.declared.trims.TakenBucket.{TakenBucket}
use Rattle.uma_domain.specs.Taken.{taken_in}
use Rattle.uma_zone.specs.Zone.{zone_domains}
use Rattle.uma_reclaim.specs.Given.{IsFromZone, GivesBucket, items_in, counted}
use Rattle.uma_reclaim.specs.Reclaimed.{taken_by, IsTakenAt, TakesInTurn, KeepsListsAt, StopsTaking}
use Rattle.uma_reclaim.specs.Told.{notes_in}
use Rattle.uma_reclaim.proofs.Rows.{counted_sum, sum_more, all_more}
use Rattle.uma_reclaim.proofs.Shelves.{at_err}
use Rattle.uma_reclaim.proofs.Told.{told_more}
use Rattle.uma_reclaim.proofs.Turns.{turn_more}
use Rattle.uma_reclaim.proofs.reclaim.give_back.Goals as goal

pub loop-domain-preserved : goal.loop-domain-preserved
loop-domain-preserved g c =
    let before = c.loop-domain.invariant in
    let Of = All (IsFromZone c.args.zone.now) in
    let Gives = All (GivesBucket c.args.zone.now) in
    let merged = g.H.Host.merged in
    let start = (view c.args.pass.now).host in
    let was = (view c.loop-domain.pass).host in
    let takes = c.loop-domain.takes in
    let take = c.of.result in
    let gave = c.give_taken-given.ensures in
    let same : taken_by take ≡ taken_in c.in_ok-taken.taken = ap taken_in c.of.ensures in
    let all : c.push.new.self ≡ takes ++ take ∷ [] = c.push.ensures in
    let items = ap (λ (l : List (Snapshot _)). sum_by items_in (map taken_by l)) all ∙ sum_more taken_by items_in takes take in
    record {
      each = (let e = ap length all in omega (arith, e, length-append takes (take ∷ []), before.each));
      of_zone = subst (λ (l : List (Snapshot _)). All Of (map taken_by l)) (sym all) (all_more taken_by Of takes take before.of_zone (subst Of (sym same) c.in_ok-taken.ensures.takes.of_zone));
      own = subst (λ (l : List (Snapshot _)). TakesInTurn c.args.zone.now c.args.extent 0 (map taken_by l)) (sym all) (turn_more c.args.zone.now c.args.extent taken_by takes take c.loop-domain.domain before.each before.own (subst (IsTakenAt c.args.zone.now c.args.extent c.loop-domain.domain) (sym same) c.in_ok-taken.ensures.takes.own));
      gave = subst (λ (l : List (Snapshot _)). All Gives (map taken_by l)) (sym all) (all_more taken_by Gives takes take before.gave (subst Gives (sym same) gave.given));
      given =
          counted_sum (sum_by items_in (map taken_by takes)) (items_in (taken_by take)) c.loop-domain.items c.give_taken-given.result c.saturating_add-items.result before.given (gave.count ∙ ap (λ (l : List (TakenBucket _ _ _ _ _)). counted (items_in l)) (sym same)) c.saturating_add-items.ensures
          ∙ ap counted (sym items);
      pass = record { own = gave.pass.own; phase = gave.pass.phase ∙ before.pass.phase; seen = omega (arith, gave.pass.seen, before.pass.seen) };
      told =
          told_more merged notes_in taken_by start was (view c.give_taken-given.new.pass).host takes take before.told (gave.told ∙ ap (λ (l : List (TakenBucket _ _ _ _ _)). fold merged was (notes_in l)) (sym same))
          ∙ ap (λ (l : List (Snapshot _)). fold merged start (flat_map notes_in (map taken_by l))) (sym all);
    }

pub returns-in_err-taken-clause-kept : goal.returns-in_err-taken-clause-kept
returns-in_err-taken-clause-kept g c =
    let before = c.loop-domain.invariant in
    record { pass = before.pass; host = record { notes = flat_map notes_in (map taken_by c.loop-domain.takes); told = before.told } }

pub returns-clause-kept : goal.returns-clause-kept
returns-clause-kept g c =
    let before = c.loop-domain.invariant in
    record { pass = before.pass; host = record { notes = flat_map notes_in (map taken_by c.loop-domain.takes); told = before.told } }

pub returns-in_err-taken-clause-stopped : goal.returns-in_err-taken-clause-stopped
returns-in_err-taken-clause-stopped g c =
    let before = c.loop-domain.invariant in
    let takes = map taken_by c.loop-domain.takes in
    let within : c.loop-domain.domain < zone_domains c.args.zone.now = search rules in
    let many : length takes ≡ c.loop-domain.domain = length-map c.loop-domain.takes taken_by ∙ before.each in
    let stops : StopsTaking c.args.zone.now c.args.extent g.H.Host.merged (view c.args.pass.now).host (view c.loop-domain.pass).host = record {
      takes = takes;
      few = omega (arith, many, within);
      own = before.own;
      given = before.gave;
      told = before.told;
      keeps = subst (λ (n : ℕ). KeepsListsAt c.args.zone.now n) (sym many) c.in_err-taken.ensures.keeps;
    } in
    at_err _ stops
