use Rattle.std.proofs.Common.{rules, ◌≡◌, ◌∙◌, ℕ, map, sym, ap, arith}
use Rattle.uma_zcache.specs.Bases.{times}
use Rattle.uma_zcache.specs.Entries.{numbers_with}
use Rattle.uma_zcache.specs.Locked.{zone_with}
use Rattle.uma_zcache.specs.Refused.{alloc_cause}
use Rattle.uma_zcache.proofs.Sound.{zones_new, none_with}
use Rattle.uma_zcache.proofs.locked.LockedCache.new.Goals as goal

pub returns-clause-new : goal.returns-clause-new
returns-clause-new g c =
    let entries = c.in_ok-entries.entries in
    let home = c.in_ok-entries.ensures in
    let none : (base : ℕ) → numbers_with base entries ≡ 0 = λ base. ap (numbers_with base) home ∙ none_with c.args.numbers base in
    record {
      home = home;
      numbers = search rules;
      sound = record {
        numbers = c.in_ok-book.ensures.ok ∙ zones_new c.args.numbers ∙ ap (map zone_with) (sym home);
        distinct = λ base. omega (arith, none base);
        exact = λ base. none base ∙ sym (ap (times base) c.requires);
        listed = c.in_ok-fails.ensures ∙ ap (map alloc_cause) (sym c.new-4.ensures);
      };
    }
