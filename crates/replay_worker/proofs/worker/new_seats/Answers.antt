use Rattle.std.proofs.Common.{◌≡◌, ◌+◌, ℕ, List, Some, length, ap, sym, subst, ◌∙◌}
use Rattle.std.specs.Prelude.{slice_get}
use Rattle.std.proofs.lemmas.List.{length_push}
use Rattle.replay_worker.specs.Items.{CountedSeat}
use Rattle.replay_worker.proofs.AtPlace.{entry_at}
use Rattle.replay_worker.proofs.NewSeats.{AreNew, AreNew-more}
use Rattle.replay_worker.proofs.worker.new_seats.Goals as goal

pub loop-zone-preserved : goal.loop-zone-preserved
loop-zone-preserved g c =
    let zones = c.args.zones.now in
    let seats = c.loop-zone.seats.items in
    let count = c.loop-zone.invariant.count in
    let items = c.in_ok-push.ensures.items in
    let At : ℕ → Type 0 = λ z. slice_get zones z ≡ Some c.zone-item.result in
    let P : List (CountedSeat _ _ _) → Type 0 = λ list. AreNew zones c.args.domain list in
    record {
      count = ap length items ∙ (length_push seats _ ∙ ap (λ n. n + 1) count);
      each = subst P (sym items) (AreNew-more zones c.args.domain seats c.zone-item.result _
          (subst At (sym count) (entry_at zones c.loop-zone.zone-index c.zone-item.result c.loop-zone-test.true c.zone-item.is))
          (record { seat_of = c.in-Ok.ensures.seat; fresh = c.in-Ok.ensures.fresh }) c.loop-zone.invariant.each);
    }
