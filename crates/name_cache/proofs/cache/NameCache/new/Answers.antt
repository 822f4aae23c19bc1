use Rattle.std.proofs.Common.{List, length, sym, ap, subst, ◌∙◌}
use Rattle.smr_clock.specs.declared.clock.Setup.{Setup}
use Rattle.smr_clock.specs.Belongs.{TableId}
use Rattle.uma_zone.specs.Zone.{zone_home}
use Rattle.name_rows.specs.declared.row.Row.{Row}
use Rattle.name_rows.specs.Belongs.{FitsNames}
use Rattle.name_cache.specs.Homes.{home_origin}
use Rattle.name_cache.specs.Origins.{clock_numbers}
use Rattle.name_cache.specs.Locks.{AreNamed}
use Rattle.name_cache.specs.Making.{AreFreshRows}
use Rattle.name_cache.proofs.cache.NameCache.new.Goals as goal

pub lock_rows-requires : goal.lock_rows-requires
lock_rows-requires c = record { rows = subst (λ (l : List Row). AreFreshRows c.args.opened.clock l) (sym c.into_vec.ensures) c.requires.opened.rows }

pub invariant_of-result : goal.invariant_of-result
invariant_of-result c =
    let zone = c.in_ok-zone.zone in
    let made = c.in_ok-zone.ensures.made.numbers in
    let hooks = c.in_ok-hooks.ensures in
    let rows = c.in_ok-rows.rows in
    let clock = sym made.same_clock in
    record {
      primary = made.index;
      smr = made.smr ∙ c.requires.fits.smr;
      raised = c.in_ok-zone.ensures.made.origin ∙ ap home_origin (sym hooks.same_root) ∙ ap clock_numbers (hooks.clock ∙ clock);
      names = subst (λ (id : TableId × Setup). FitsNames id.1 id.0.words) clock c.requires.opened.names;
      long = c.in_ok-rows.ensures.long ∙ ap length c.into_vec.ensures ∙ c.requires.opened.all_rows ∙ ap (λ (id : TableId × Setup). id.1.plan.0) clock;
      named = subst (λ (id : TableId × Setup). AreNamed id (zone_home zone) rows.items) clock c.in_ok-rows.ensures.named;
    }
