use Rattle.std.proofs.Common.{ap, rules, sym, subst, ◌∙◌}
use Rattle.uma_life.specs.Life.{Life}
use Rattle.uma_life.specs.Trail.{IsAt}
use Rattle.uma_life.specs.Ticket.{ticket_zone}
use Rattle.uma_life.specs.declared.tally.BodyPhase.TheVariants.{Built}
use Rattle.uma_item.specs.declared.item.Item.{Item}
use Rattle.uma_item.specs.declared.trail.Trailed.{Trailed}
use Rattle.uma_item.specs.Counts.{tally_by, kept_stays}
use Rattle.uma_item.specs.Item.{item_data}
use Rattle.uma_item.proofs.item.Item.change.Goals as goal

-- src/changing.rt:22:10
pub from_parts-requires : goal.from_parts-requires
from_parts-requires g c =
    let life : Trailed g.row.B.Denot → Life = λ whole. record { no = whole.no; phase = whole.phase; tally = tally_by whole.phase whole.ctors (kept_stays whole.stays) } in
    record {
      number = search rules;
      at = subst (λ whole. IsAt (Built (ticket_zone c.into_parts-item.result.1)) (life whole)) (sym c.deref_mut.ensures.value) c.into_parts-item.ensures.agree.at;
      origin = search rules;
    }

-- src/changing.rt:14:5
pub returns-clause-changed : goal.returns-clause-changed
returns-clause-changed g c = record {
  shown = _;
  shows = ap (λ (whole : Trailed g.row.B.Denot). whole.data) c.deref_mut.ensures.value ∙ ap (λ (item : Item g.row.B.Denot). item_data item) c.into_parts-item.ensures.body;
  left = _;
  met = c.change-answer.ensures;
  leaves = sym (ap (λ (item : Item g.row.B.Denot). item_data item) c.from_parts.ensures.0);
}
