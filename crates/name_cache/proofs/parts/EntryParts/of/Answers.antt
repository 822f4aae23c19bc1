use Rattle.std.proofs.Common.{sym, ap, subst, ◌∙◌}
use Rattle.std.specs.Arc.{arc_value}
use Rattle.smr_clock.specs.Belongs.{clock_id}
use Rattle.uma_life.specs.Life.{Life}
use Rattle.uma_life.specs.Ticket.{ticket_zone}
use Rattle.uma_life.specs.Trail.{IsAt}
use Rattle.uma_life.specs.declared.tally.BodyPhase.TheVariants.{Built}
use Rattle.name_rows.specs.Entries.{entry_life}
use Rattle.name_cache.specs.Homes.{home_clock, home_origin}
use Rattle.name_cache.specs.Raised.{raised_home}
use Rattle.name_cache.proofs.Clocks.{ours_too}
use Rattle.name_cache.proofs.parts.EntryParts.of.Goals as goal

pub invariant_of-result : goal.invariant_of-result
invariant_of-result c =
    let item = c.into_parts-raised in
    let parts = c.into_parts-entry in
    record {
      ours = ours_too (home_clock (raised_home item.result.0)) (home_clock (arc_value parts.result.1)) (ap (λ (h : _). clock_id (home_clock h)) (sym parts.ensures.home)) parts.result.0.words parts.ensures.here;
      numbered = ap (λ (e : _). (entry_life e).no) parts.ensures.entry ∙ item.ensures.agree.number;
      built = subst (λ (l : Life). IsAt (Built (ticket_zone item.result.1)) l) (ap entry_life (sym parts.ensures.entry)) item.ensures.agree.at;
      of_origin = ap home_origin parts.ensures.home ∙ item.ensures.agree.origin;
    }
