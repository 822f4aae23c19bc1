-- Under the core's law each step finds its words, and its sums fit.
use Rattle.std.proofs.Common.{◌≡◌, ℕ, ◌+◌, ◌*◌, ◌^◌, ◌<◌, ◌≤◌, ◌⊎◌, length, ap, ◌∙◌, ⊎_elim, arith, Option, Some, IsSome}
use mathlib.Core.Option.{some}
use Rattle.smr_core.specs.declared.steps.Actor.{Actor}
use Rattle.smr_core.specs.declared.holder.Holder.{Holder}
use Rattle.smr_core.specs.declared.holder.Phase.TheVariants as phase
use Rattle.smr_core.specs.declared.holder.Task.TheVariants as task
use Rattle.smr_core.specs.ClockState.{place_after_seats, seat_place, write_hand}
use Rattle.smr_core.specs.ClockLaw.{HolderFits, all_advances}
use Rattle.smr_core.specs.CoreState.{State, IsActor, CoreLaw, holders_of}
use Rattle.smr_core.proofs.PlaceLemmas.{at_map, term-le-sum_by}
use Rattle.smr_core.proofs.KindLemmas.{in_task, seat_in_phase}
use Rattle.smr_core.proofs.CoreLemmas.{holder_there, seat_of_worker}

module _ (s : State) (n : ℕ) (x : Actor) (law : CoreLaw s) (there : IsActor s n x) where
  fits : HolderFits s.config s.words x.holder
  fits = law.clock.holders n x.holder (holder_there s n x there)

  -- the word of a worker's seat is among the words
  pub worker_place : IsSome x.holder.seat → seat_place n < length s.words
  worker_place worker =
      let mine : x.holder.seat ≡ Some n = seat_of_worker s.config n x.holder.seat (law.seats n x there) worker in
      let known : n < s.config.seats = law.clock.seats.known n n (at_map (λ (h : Holder). h.seat) (holders_of s.actors) n x.holder (holder_there s n x there) ∙ ap (λ (o : Option ℕ). some o) mine) in
      let places : length s.words ≡ place_after_seats s.config = law.words in omega arith

  pub loaded_place : x.holder.phase ≡ phase.Loaded → seat_place n < length s.words
  loaded_place e = worker_place (seat_in_phase s.config s.words x.holder phase.Loaded fits e)

  pub entered_place : (x.holder.phase ≡ phase.Inside) ⊎ (x.holder.phase ≡ phase.Late) → seat_place n < length s.words
  entered_place e =
      worker_place (⊎_elim (λ i. seat_in_phase s.config s.words x.holder phase.Inside fits i) (λ l. seat_in_phase s.config s.words x.holder phase.Late fits l) e)

  pub seat_below : IsSome x.holder.seat → n < 64
  seat_below worker =
      let mine : x.holder.seat ≡ Some n = seat_of_worker s.config n x.holder.seat (law.seats n x there) worker in
      let known : n < s.config.seats = law.clock.seats.known n n (at_map (λ (h : Holder). h.seat) (holders_of s.actors) n x.holder (holder_there s n x there) ∙ ap (λ (o : Option ℕ). some o) mine) in
      let few : s.config.seats ≤ 64 = law.clock.numbers.few_seats in omega arith

  pub leaver_below : x.holder.phase ≡ phase.Outside → n < 64
  leaver_below e = seat_below (seat_in_phase s.config s.words x.holder phase.Outside fits e)

  pub comer_below : x.holder.phase ≡ phase.Vacant → n < 64
  comer_below e = seat_below (seat_in_phase s.config s.words x.holder phase.Vacant fits e)

  -- an advance that may exchange has room for its goal
  pub goal_fits : x.holder.task ≡ task.AdvLoaded → x.holder.write + 2 < 2 ^ 63
  goal_fits e = (in_task s.config s.words x.holder task.AdvLoaded fits e).4

  -- the write sequence has risen by two for each advance
  pub advances_fit : x.holder.advances < 2 ^ 63
  advances_fit =
      let one : x.holder.advances ≤ all_advances (holders_of s.actors) =
      term-le-sum_by (λ (h : Holder). h.advances) (holders_of s.actors) n x.holder (holder_there s n x there) in
      let balance : write_hand s.words ≡ s.config.start + 2 * all_advances (holders_of s.actors) = law.clock.balance in
      let range : write_hand s.words < 2 ^ 63 = law.clock.hands.in_range in omega arith
