use Rattle.std.proofs.Common.{rules, refl}
use Rattle.std.proofs.lemmas.Result.{err_from_is_err_and}
use Rattle.locked_keg.specs.declared.locked_keg.LockedKeg.{LockedKeg}
use Rattle.locked_keg.specs.LockedKeg.{keg_in}
use Rattle.locked_keg.proofs.Brought.{stopped_domains}
use Rattle.locked_keg.proofs.Domains.{brought_domains}
use Rattle.locked_keg.proofs.Kept.{still_keeps, still_lists}
use Rattle.locked_keg.proofs.locked_keg.LockedKeg.bring_slabs.Goals as goal

pub returns-in_err-bring_all : goal.returns-in_err-bring_all
returns-in_err-bring_all g c =
    let old = c.args.self.now in
    let keg = c.bring_all.new.keg in
    let zones = c.bring_all.ensures.kept.zones in
    let new : LockedKeg g.row.T.Denot g.row.K.Denot g.T.Body g.K.Hooks = record { keg = c.bring_all.new.keg; fails = c.args.self.now.fails } in
    let stops = c.in_err-bring_all.ensures.refused in
    let p = err_from_is_err_and c.from_residual.result c.from_residual.ensures.1 in
    record {
      count = search rules;
      brings = search rules;
      refused = rw (p.1, p.2) stops;
      kept = c.bring_all.ensures.kept;
      books = refl;
      domains = λ bound own below. stopped_domains (keg_in old) keg c.args.domain c.args.count bound c.in_err-bring_all.field-0.0 stops own below;
      keeps = λ key own kept. still_keeps key old new zones.same (λ zone. refl) (still_lists old new (λ zone. refl) zones.fetches)
          (λ below. stopped_domains (keg_in old) keg c.args.domain c.args.count key.domains c.in_err-bring_all.field-0.0 stops own below) kept;
    }

pub returns : goal.returns
returns g c =
    let old = c.args.self.now in
    let keg = c.bring_all.new.keg in
    let zones = c.bring_all.ensures.kept.zones in
    let new : LockedKeg g.row.T.Denot g.row.K.Denot g.T.Body g.K.Hooks = record { keg = c.bring_all.new.keg; fails = c.args.self.now.fails } in
    let brings = c.in_ok-bring_all.ensures.brings in
    record {
      count = search rules;
      brings = brings;
      refused = search rules;
      kept = c.bring_all.ensures.kept;
      books = refl;
      domains = λ bound own below. brought_domains (keg_in old) keg c.args.domain c.args.count bound brings own below;
      keeps = λ key own kept. still_keeps key old new zones.same (λ zone. refl) (still_lists old new (λ zone. refl) zones.fetches)
          (λ below. brought_domains (keg_in old) keg c.args.domain c.args.count key.domains brings own below) kept;
    }
