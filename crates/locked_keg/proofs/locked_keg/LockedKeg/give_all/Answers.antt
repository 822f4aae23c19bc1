use Rattle.std.proofs.Common.{refl}
use Rattle.uma_bucket.specs.Bucket.{items_of}
use Rattle.locked_keg.specs.declared.locked_keg.LockedKeg.{LockedKeg}
use Rattle.locked_keg.specs.LockedKeg.{keg_in}
use Rattle.locked_keg.proofs.Given.{domains_back}
use Rattle.locked_keg.proofs.Kept.{still_keeps, still_lists}
use Rattle.locked_keg.proofs.locked_keg.LockedKeg.give_all.Goals as goal

pub returns-clause-given : goal.returns-clause-given
returns-clause-given g c = c.give_each-count.ensures.given

pub returns-clause-kept : goal.returns-clause-kept
returns-clause-kept g c =
    let old = c.args.self.now in
    let given = c.give_each-count.ensures.given in
    let new : LockedKeg g.row.T.Denot g.row.K.Denot g.T.Body g.K.Hooks = record { keg = c.give_each-count.new.keg; fails = c.args.self.now.fails } in
    record {
      books = refl;
      keeps = λ key kept. still_keeps key old new given.zones.same (λ zone. refl) (still_lists old new (λ zone. refl) given.zones.fetches)
          (domains_back (keg_in old) c.give_each-count.new.keg c.args.hooks.now (items_of c.args.bucket) key.domains given.gives) kept;
    }
