use Rattle.std.proofs.Common.{◌≤◌, ◌∙◌, ℕ, List, Option, Some, map, sym, ap, subst}
use Rattle.uma_zcache.specs.Bases.{times}
use Rattle.uma_zcache.specs.Entries.{numbers_with}
use Rattle.uma_zcache.specs.Locked.{zone_with}
use Rattle.uma_zcache.proofs.Sound.{zones_home, zones_set, exact_out, distinct_out}
use Rattle.uma_zcache.proofs.locked.LockedCache.import_one.Goals as goal

pub invariant_of-self : goal.invariant_of-self
invariant_of-self g c = record { exact = λ base. c.args.self.now.exact base ∙ ap (times base) (sym c.in_err-base.ensures.unchanged) }

pub issue-deed-requires-clause-home : goal.issue-deed-requires-clause-home
issue-deed-requires-clause-home g c = zones_home _ c.args.self.now.entries c.put_out-no.result c.requires.numbers c.put_out-no.ensures.home

pub invariant_of-self-2 : goal.invariant_of-self-2
invariant_of-self-2 g c = record { exact = λ base. ap (numbers_with base) c.put_out-no.ensures.entry ∙ exact_out c.args.self.now.entries (g.I.Import.outside c.args.self.now.import) (g.I.Import.outside c.take_one.new.self) c.put_out-no.result c.in_ok-base.base c.args.self.now.exact c.put_out-no.ensures.home c.in_ok-base.ensures.gains base }

pub returns-clause-sound : goal.returns-clause-sound
returns-clause-sound g c =
    let old = c.args.self.now in
    let out = c.put_out-no.ensures in
    record {
      numbers = c.issue-deed.ensures.book ∙ zones_set _ old.entries c.put_out-no.result (Some c.in_ok-base.base) c.requires.numbers ∙ ap (map zone_with) (sym out.entry);
      distinct = λ base. subst (λ (l : List (Option ℕ)). numbers_with base l ≤ 1) (sym out.entry) (distinct_out old.entries (g.I.Import.outside old.import) (g.I.Import.outside c.take_one.new.self) c.put_out-no.result c.in_ok-base.base c.requires.distinct old.exact out.home c.in_ok-base.ensures.gains base);
      exact = λ base. ap (numbers_with base) out.entry ∙ exact_out old.entries (g.I.Import.outside old.import) (g.I.Import.outside c.take_one.new.self) c.put_out-no.result c.in_ok-base.base old.exact out.home c.in_ok-base.ensures.gains base;
      listed = c.requires.listed;
    }
