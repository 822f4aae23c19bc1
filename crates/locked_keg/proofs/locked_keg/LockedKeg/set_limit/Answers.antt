use Rattle.std.proofs.Common.{refl}
use Rattle.locked_keg.specs.declared.locked_keg.LockedKeg.{LockedKeg}
use Rattle.locked_keg.specs.LockedKeg.{keg_in}
use Rattle.locked_keg.proofs.Domains.{same_places}
use Rattle.locked_keg.proofs.Kept.{still_keeps, still_lists}
use Rattle.uma_keg.specs.Keg.{places_in}
use Rattle.locked_keg.proofs.locked_keg.LockedKeg.set_limit.Goals as goal

pub returns : goal.returns
returns g c =
    let old = c.args.self.now in
    let keg = c.set_limit.ensures.set in
    let new : LockedKeg g.row.T.Denot g.row.K.Denot g.T.Body g.K.Hooks = record { keg = c.set_limit.new.self; fails = c.args.self.now.fails } in
    record {
      former = c.set_limit.ensures.former;
      set = keg;
      kept = record {
        books = refl;
        keeps = λ key kept. still_keeps key old new keg.same (λ zone. refl) (still_lists old new (λ zone. refl) keg.fetches)
            (same_places (places_in (keg_in old)) (places_in c.set_limit.new.self) key.domains keg.places) kept;
      };
    }
