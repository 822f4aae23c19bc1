use Rattle.std.proofs.Common.{rules, arith}
use Rattle.uma_keg.specs.HomeItems.{item_at}
use Rattle.uma_keg.specs.Tallies.{home_times}
use Rattle.uma_keg.proofs.TallyLaws.{sum_below-more, sum_below-none, buried_few, totals_below}
use Rattle.uma_keg.proofs.keg.Keg.wide_tally.Goals as goal

pub loop-no-init : goal.loop-no-init
loop-no-init g c =
    let keg = c.args.self.now in
    record {
      sums = λ hook. omega (arith, sum_below-none (λ n. home_times hook (item_at keg.home_items n)));
      room = λ hook. omega (arith, buried_few keg.buried keg.places hook keg.tally_law);
    }

pub loop-no-preserved : goal.loop-no-preserved
loop-no-preserved g c =
    let keg = c.args.self.now in
    record {
      sums = λ hook. omega (arith, c.add_home.ensures.sums hook, c.loop-no.invariant.sums hook, sum_below-more (λ n. home_times hook (item_at keg.home_items n)) c.loop-no.no);
      room = λ hook. omega (arith, c.add_home.ensures.sums hook, c.add_home.ensures.counts hook, c.loop-no.invariant.room hook);
    }

pub returns : goal.returns
returns g c =
    let counts = c.counts-cap in
    let sound = counts.ensures.sound in
    record {
      totals = search rules;
      below = λ hook. totals_below _ c.loop-no.no counts.result.cap counts.result.per_slab (omega (arith, counts.ensures.cap, sound.few_slabs)) (omega (arith, counts.ensures.per_slab, sound.few_places)) (omega arith) (c.loop-no.invariant.room hook);
    }
