use Rattle.std.proofs.Common.{rules, ap, ◌∙◌}
use Rattle.keyed_lock.specs.KeyedLock.{lock_key}
use Rattle.locked_keg.specs.Key.{key_fails}
use Rattle.uma_zone.specs.Zone.{zone_index}
use Rattle.uma_zone.proofs.zone.Zone.lock.Goals as goal

pub returns : goal.returns
returns g c = record {
  kept = search rules;
  key = search rules;
  numbers = search rules;
  rights = search rules;
  fails = c.lock.ensures.kept.of_key.fails (zone_index c.args.self.now)
      ∙ ap (λ (lock : _). key_fails (lock_key lock) (zone_index c.args.self.now)) c.deref.ensures
      ∙ c.args.self.now.was_added;
  domains = search rules;
  cap = search rules;
  reserve = search rules;
  per_slab = search rules;
}
