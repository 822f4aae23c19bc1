use Rattle.std.proofs.Common.{◌≡◌, ◌+◌, All, ap, sym, ◌∙◌, subst, arith}
use Rattle.std.proofs.lemmas.List.Elements.{All-nil, All-cons, All-head, All-rest}
use Rattle.std.proofs.lemmas.List.Sums.{sum_by-cons}
use Rattle.smr_clock.specs.Belongs.{view}
use Rattle.uma_domain.specs.Taken.{taken_in}
use Rattle.uma_reclaim.specs.Given.{IsFromZone, GivesBucket, bucket_len, items_in}
use Rattle.uma_reclaim.specs.Told.{notes_of}
use Rattle.uma_reclaim.proofs.Rows.{counted_more}
use Rattle.uma_reclaim.proofs.Told.{told_next, told_all}
use Rattle.uma_reclaim.proofs.reclaim.give_taken.Goals as goal

pub give_bucket-given-requires-clause-of_zone : goal.give_bucket-given-requires-clause-of_zone
give_bucket-given-requires-clause-of_zone g c =
    let Here = IsFromZone c.args.zone.now in
    All-head Here c.in-Some.bucket (taken_in c.pop.new.self) (subst (λ l. All Here l) c.in-Some.ensures.first c.loop-bucket.invariant.of_zone)

pub loop-bucket-preserved : goal.loop-bucket-preserved
loop-bucket-preserved g c =
    let before = c.loop-bucket.invariant in
    let gave = c.give_bucket-given.ensures in
    let left = taken_in c.pop.new.self in
    let step : items_in (taken_in c.loop-bucket.taken) ≡ bucket_len c.in-Some.bucket + items_in left = ap items_in c.in-Some.ensures.first ∙ sum_by-cons bucket_len c.in-Some.bucket left in
    record {
      of_zone = All-rest (IsFromZone c.args.zone.now) c.in-Some.bucket left (taken_in c.loop-bucket.taken) c.in-Some.ensures.first before.of_zone;
      fewer = omega (arith, step, before.fewer);
      given = counted_more (items_in (taken_in c.args.taken)) (items_in (taken_in c.loop-bucket.taken)) (bucket_len c.in-Some.bucket) (items_in left) c.loop-bucket.count c.saturating_add-count.result before.fewer before.given step
          (omega (arith, c.saturating_add-count.ensures, c.from.ensures, gave.count));
      gave = λ rest. before.gave (subst (λ l. All (GivesBucket c.args.zone.now) l) (sym c.in-Some.ensures.first) (All-cons (GivesBucket c.args.zone.now) c.in-Some.bucket left gave.given rest));
      pass = record { own = gave.pass.own; phase = gave.pass.phase ∙ before.pass.phase; seen = omega (arith, gave.pass.seen, before.pass.seen) };
      told = told_next g.H.Host.merged notes_of (view c.args.pass.now).host (view c.loop-bucket.pass).host (view c.give_bucket-given.new.pass).host (taken_in c.args.taken) (taken_in c.loop-bucket.taken) left c.in-Some.bucket before.told
          c.in-Some.ensures.first gave.told;
    }

pub returns : goal.returns
returns g c =
    let Gives = GivesBucket c.args.zone.now in
    let none : items_in (taken_in c.loop-bucket.taken) ≡ 0 = ap items_in c.in_default.ensures.none.0 in
    record {
      pass = c.loop-bucket.invariant.pass;
      told = told_all g.H.Host.merged notes_of (view c.args.pass.now).host (view c.loop-bucket.pass).host (taken_in c.args.taken) (taken_in c.loop-bucket.taken) c.loop-bucket.invariant.told c.in_default.ensures.none.0;
      count = omega (arith, none, c.loop-bucket.invariant.given);
      given = c.loop-bucket.invariant.gave (subst (λ l. All Gives l) (sym c.in_default.ensures.none.0) (All-nil Gives));
    }
