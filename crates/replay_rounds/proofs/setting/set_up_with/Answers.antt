use Rattle.std.proofs.Common.{rules, ◌≡◌, ◌∙◌, List, length, sym, subst}
use Rattle.std.specs.Prelude.{All}
use Rattle.uma_zone.specs.Zone.{zone_domains}
use Rattle.replay_worker.specs.Items.{CountedZone}
use Rattle.replay_rounds.specs.Beginners.{AreBeginners}
use Rattle.replay_rounds.proofs.SetUp.{zones_in, set_up_of}
use Rattle.replay_rounds.proofs.setting.set_up_with.Goals as goal

pub make_workers-requires : goal.make_workers-requires
make_workers-requires g c =
    let head = c.args.trace.now.head in
    record {
      domains = search rules;
      few = search rules;
      zones = subst (All (λ (zone : CountedZone _ _ _). zone_domains zone ≡ head.domains)) (sym c.as_slice.ensures.value) (zones_in head c.args.clock c.in_ok-zones.zones.items c.in_ok-zones.ensures);
      passes = search rules;
    }

pub returns-clause-set_up : goal.returns-clause-set_up
returns-clause-set_up g c =
    let head = c.args.trace.now.head in
    let clock = c.args.clock in
    let count = length c.note_beginning-begun.new.passes.items in
    let workers = c.in_ok-workers.workers.items in
    set_up_of c.args.trace.now (record { clock = clock; begun = c.note_beginning-begun.result; zones = c.in_ok-zones.zones; workers = c.in_ok-workers.workers }) count c.requires.clock c.note_beginning-begun.ensures.note c.in_ok-zones.ensures
    (c.note_beginning-begun.ensures.passes.one_each ∙ c.requires.passes.one_each)
    (subst (λ (zones : List (CountedZone _ _ _)). AreBeginners zones clock head.domains count workers) c.as_slice.ensures.value c.in_ok-workers.ensures)
