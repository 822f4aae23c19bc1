use Rattle.std.proofs.Common.{◌≤◌, ◌∙◌, ℕ, List, Option, None, map, sym, ap, subst}
use Rattle.uma_zcache.specs.Entries.{numbers_with}
use Rattle.uma_zcache.specs.Locked.{zone_with}
use Rattle.uma_zcache.proofs.Sound.{zones_set, exact_home, distinct_home, was_outside}
use Rattle.uma_zcache.proofs.locked.LockedCache.release.Goals as goal

pub give_one-requires : goal.give_one-requires
give_one-requires g c = was_outside c.args.self.now.entries (g.I.Import.outside c.args.self.now.import) c.accept-no.result.0 c.put_home-base.result c.args.self.now.exact c.put_home-base.ensures.was

pub invariant_of-self : goal.invariant_of-self
invariant_of-self g c = record { exact = λ base. ap (numbers_with base) c.put_home-base.ensures.entry ∙ exact_home c.args.self.now.entries (g.I.Import.outside c.args.self.now.import) (g.I.Import.outside c.give_one.new.self) c.accept-no.result.0 c.put_home-base.result c.args.self.now.exact c.put_home-base.ensures.was c.give_one.ensures base }

pub returns-clause-sound : goal.returns-clause-sound
returns-clause-sound g c =
    let old = c.args.self.now in
    let home = c.put_home-base.ensures in
    record {
      numbers = c.accept-no.ensures.book ∙ zones_set _ old.entries c.accept-no.result.0 None c.requires.sound.numbers ∙ ap (map zone_with) (sym home.entry);
      distinct = λ base. subst (λ (l : List (Option ℕ)). numbers_with base l ≤ 1) (sym home.entry) (distinct_home old.entries c.accept-no.result.0 c.put_home-base.result c.requires.sound.distinct home.was base);
      exact = λ base. ap (numbers_with base) home.entry ∙ exact_home old.entries (g.I.Import.outside old.import) (g.I.Import.outside c.give_one.new.self) c.accept-no.result.0 c.put_home-base.result old.exact home.was c.give_one.ensures base;
      listed = c.requires.sound.listed;
    }
