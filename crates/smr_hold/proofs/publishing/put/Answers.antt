use Rattle.std.proofs.Common.{rules, ◌+◌, ◌≤◌, subst, sym, ◌∙◌, arith}
use Rattle.smr_clock.specs.declared.clock.Setup.{Setup}
use Rattle.smr_objects.specs.CellViews.{cell_view}
use Rattle.smr_hold.proofs.PutLemmas.{former_open, puts_after}
use Rattle.smr_hold.proofs.publishing.put.Goals as goal

pub stamp_slot-requires : goal.stamp_slot-requires
stamp_slot-requires c =
    record {
      slot = search rules;
      withdrawn = search rules;
      unclosed = former_open (cell_view c.args.cell.now) (cell_view c.write_value.new.cell) (cell_view c.open_slot.new.cell) (cell_view c.switch_to-version.new.cell) c.args.slot c.args.value (let long = c.args.cell.now.sixteen in let most = c.requires.slot.objects.plan.few_slots in let s = c.requires.slot.below in omega arith) (let long = c.write_value.new.cell.sixteen in let most = c.requires.slot.objects.plan.few_slots in let s = c.requires.slot.below in omega arith) c.write_value.ensures.cell c.open_slot.ensures.cell c.switch_to-version.ensures.switches.cell c.write_value.ensures.kept.holder c.open_slot.ensures.kept.holder c.switch_to-version.ensures.kept.holder c.requires.idle c.switch_to-version.ensures.switches.former c.in-Some.former (sym c.in-Some.is ∙ c.current-former.ensures.current);
    }

pub returns-in-Some-clause-puts : goal.returns-in-Some-clause-puts
returns-in-Some-clause-puts c =
    record {
      next = search rules;
      puts = puts_after (cell_view c.args.cell.now) (cell_view c.write_value.new.cell) (cell_view c.open_slot.new.cell) (cell_view c.switch_to-version.new.cell) c.args.slot c.args.value (let long = c.args.cell.now.sixteen in let most = c.requires.slot.objects.plan.few_slots in let s = c.requires.slot.below in omega arith) (let long = c.write_value.new.cell.sixteen in let most = c.requires.slot.objects.plan.few_slots in let s = c.requires.slot.below in omega arith) c.write_value.ensures.cell c.open_slot.ensures.cell c.switch_to-version.ensures.switches.cell c.write_value.ensures.kept.holder c.open_slot.ensures.kept.holder c.switch_to-version.ensures.kept.holder c.requires.idle c.in-Some.former (cell_view c.stamp_slot.new.cell) (sym c.in-Some.is ∙ c.current-former.ensures.current)
          (let long = c.switch_to-version.new.cell.sixteen in
          let most = c.requires.slot.objects.plan.few_slots in
          let below = subst (λ (s : Setup). c.in-Some.former + 1 ≤ s.plan.1) c.requires.slot.here.1 c.in-Some.ensures.below in
          omega arith)
          c.stamp_slot.ensures.stamps;
    }
