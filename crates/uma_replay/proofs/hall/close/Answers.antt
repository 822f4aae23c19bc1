use Rattle.std.proofs.Common.{List, ap, length, refl, sym, subst, ◌∙◌}
use Rattle.replay_worker.specs.declared.worker.Worker.{Worker}
use Rattle.replay_worker.specs.Items.{CountedZone}
use Rattle.replay_rounds.specs.Clock.{ReadsHands}
use Rattle.replay_rounds.specs.Closes.{AllClose}
use Rattle.uma_replay.specs.Hall.{AreDone, NamesDone}
use Rattle.uma_replay.specs.Playing.{AllStay}
use Rattle.uma_replay.proofs.Beginning.{written_back}
use Rattle.uma_replay.proofs.HallOf.{names_stay}
use Rattle.uma_replay.proofs.Playing.{ended_stay}
use Rattle.uma_replay.proofs.hall.close.Goals as goal

pub take_stock-requires-clause-done : goal.take_stock-requires-clause-done
take_stock-requires-clause-done g c =
    let t = c.args.trace.now in
    let hall = c.args.hall in
    let Z : List (CountedZone _ _ _) → Type 0 = λ zones. AreDone t zones hall.clock c.as_mut_slice.result.now in
    let W : List (Worker _ _ _) → Type 0 = λ workers. AreDone t hall.zones hall.clock workers in
    subst Z (sym c.as_slice.ensures) (subst W (sym (c.as_mut_slice.ensures.value ∙ c.into_vec-workers.ensures)) c.requires.can.done)

pub reported-requires-clause-can : goal.reported-requires-clause-can
reported-requires-clause-can g c κs within =
    let names = g.N.NameCalls in
    let t = c.args.trace.now in
    let hall = c.args.hall in
    let new = c.take_stock.new.workers in
    let before = c.into_vec-workers.result in
    let A : List (Worker _ _ _) → Type 0 = λ old. AllStay hall.clock old new in
    let stay = subst A (c.as_mut_slice.ensures.value ∙ c.into_vec-workers.ensures) c.in_ok-stock.ensures.stay in
    let is = c.from_vec.ensures ∙ written_back new before.items before.len before.ok.0 (stay.count ∙ sym (ap length c.into_vec-workers.ensures)) in
    let D : List (CountedZone _ _ _) → Type 0 = λ zones. AreDone t zones hall.clock new in
    let E : List (Worker _ _ _) → Type 0 = λ workers. AreDone t hall.zones hall.clock workers in
    let N : List (Worker _ _ _) → Type 0 = λ workers. NamesDone names t hall.names hall.zones hall.clock workers hall.name_works in
    record {
      valid = c.requires.can.valid;
      few = c.requires.can.few;
      done = subst E (sym is) (subst D c.as_slice.ensures c.in_ok-stock.ensures.done);
      named = subst N (sym is) (names_stay names t hall.names hall.zones hall.clock hall.workers new hall.name_works stay c.requires.can.named);
      ended = ended_stay t hall.clock hall.workers new c.from_vec.result hall.name_works hall.name_works hall.gave_ups hall.gave_ups stay is refl refl c.requires.can.ended;
    }

pub reported-requires-clause-hands : goal.reported-requires-clause-hands
reported-requires-clause-hands g c κs within =
    let hall = c.args.hall in
    let new = c.take_stock.new.workers in
    let before = c.into_vec-workers.result in
    let A : List (Worker _ _ _) → Type 0 = λ old. AllStay hall.clock old new in
    let stay = subst A (c.as_mut_slice.ensures.value ∙ c.into_vec-workers.ensures) c.in_ok-stock.ensures.stay in
    let is = c.from_vec.ensures ∙ written_back new before.items before.len before.ok.0 (stay.count ∙ sym (ap length c.into_vec-workers.ensures)) in
    let Q : List (Worker _ _ _) → Type 0 = λ workers. ReadsHands hall.clock workers c.in_ok-stock.stock.read c.in_ok-stock.stock.write in
    subst Q (sym is) c.in_ok-stock.ensures.hands

pub reported-requires-clause-closes : goal.reported-requires-clause-closes
reported-requires-clause-closes g c κs within =
    let head = c.args.trace.now.head in
    let hall = c.args.hall in
    let new = c.take_stock.new.workers in
    let before = c.into_vec-workers.result in
    let totals = c.in_ok-stock.stock.totals in
    let A : List (Worker _ _ _) → Type 0 = λ old. AllStay hall.clock old new in
    let stay = subst A (c.as_mut_slice.ensures.value ∙ c.into_vec-workers.ensures) c.in_ok-stock.ensures.stay in
    let is = c.from_vec.ensures ∙ written_back new before.items before.len before.ok.0 (stay.count ∙ sym (ap length c.into_vec-workers.ensures)) in
    let P : List (CountedZone _ _ _) → Type 0 = λ zones. AllClose head zones new totals.censuses.items totals.tallies.items totals.deferred.items in
    let Q : List (Worker _ _ _) → Type 0 = λ workers. AllClose head hall.zones workers totals.censuses.items totals.tallies.items totals.deferred.items in
    subst Q (sym is) (subst P c.as_slice.ensures c.in_ok-stock.ensures.closes)
