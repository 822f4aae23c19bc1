use Rattle.std.proofs.Common.{refl, ◌∙◌}
use Rattle.std.proofs.lemmas.Result.{err_from_is_err_and}
use Rattle.uma_keg.proofs.BroughtSlabs.{brings_none, brings_more}
use Rattle.locked_keg.proofs.Kept.{same_keg, same_more}
use Rattle.locked_keg.proofs.Brought.{stops_bringing}
use Rattle.locked_keg.proofs.locked_keg.bring_all.Goals as goal

pub loop-init : goal.loop-init
loop-init g c = record {
  brings = brings_none c.args.keg.now c.args.domain;
  zones = refl;
  rights = refl;
  limits = λ zone. refl;
  fetches = λ zone. refl;
  same = same_keg c.args.keg.now;
}

pub loop-preserved : goal.loop-preserved
loop-preserved g c =
    let old = c.args.keg.now in
    let mid = c.loop.keg in
    let new = c.bring.new.self in
    let before = c.loop.invariant in
    let one = c.in_ok-bring.ensures in
    record {
      brings = brings_more old mid new c.args.domain c.loop.counter before.same before.brings one.brings;
      zones = one.zones ∙ before.zones;
      rights = one.rights ∙ before.rights;
      limits = λ zone. one.limits zone ∙ before.limits zone;
      fetches = λ zone. one.fetches zone ∙ before.fetches zone;
      same = same_more old mid new before.same one.same;
    }

pub returns-in_err-bring-clause-refused : goal.returns-in_err-bring-clause-refused
returns-in_err-bring-clause-refused g c =
    let before = c.loop.invariant in
    let one = c.in_err-bring.ensures in
    let p = err_from_is_err_and c.from_residual.result c.from_residual.ensures.1 in
    rw (p.1, p.2) (stops_bringing c.args.keg.now c.loop.keg c.bring.new.self c.args.domain c.loop.counter c.args.count c.in_err-bring.field-0.0 c.loop-test.true before.brings before.same one.refused one.places one.stored)
