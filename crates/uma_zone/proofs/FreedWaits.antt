-- Freed items wait: the law of a sequence of calls, by induction on it.
use Rattle.std.proofs.Common.{◌⊎◌, ℕ, List, [], ◌∷◌, ◌++◌, inl, inr, subst}
use Rattle.std.proofs.lemmas.Bool.{cases_eq}
use Rattle.std.proofs.lemmas.List.Elements.{Contains-append_left, Contains-append_right, Contains-append_cases}
use Rattle.std.specs.List.{Contains}
use Rattle.smr_clock.specs.declared.host.Host.{Ghosts as HostGhosts}
use Rattle.uma_life.specs.declared.hooks.Body.{Ghosts}
use Rattle.uma_life.specs.declared.states.Ticket.{Ticket}
use Rattle.uma_zone.specs.SafeReuse.{ripe_tickets, keg_tickets, Call, Happens, Happen, IsUsable, HandsOut, FindsRipe, GetsFromKeg, FreedWait}

module _ {T H P : Type 0} {g : Ghosts T} {h : HostGhosts H P} where
  -- where an item of the seat that a call acts on comes from
  from_own : (item : Ticket) (old new : ℕ → List Ticket) (call : Call T H P g h) → Happens old call new → Contains (new call.seat ++ call.handed) item
      → IsUsable old item ⊎ (Contains (ripe_tickets call.brought) item ⊎ Contains (keg_tickets call.brought) item)
  from_own item old new call step has =
      let all = Contains-append_cases (old call.seat ++ ripe_tickets call.brought) (keg_tickets call.brought) item (subst (λ (l : List Ticket). Contains l item) step.own has) in
      elim all [
        | inr keg ↦ inr (inr keg)
        | inl first ↦ elim (Contains-append_cases (old call.seat) (ripe_tickets call.brought) item first) [
          | inl was ↦ inl (call.seat, was)
          | inr ripe ↦ inr (inl ripe)
        ]
      ]

  -- so it is on each seat
  from_one : (item : Ticket) (old new : ℕ → List Ticket) (call : Call T H P g h) → Happens old call new → IsUsable new item ⊎ Contains call.handed item
      → IsUsable old item ⊎ (Contains (ripe_tickets call.brought) item ⊎ Contains (keg_tickets call.brought) item)
  from_one item old new call step (inr handed) = from_own item old new call step (Contains-append_right (new call.seat) call.handed item handed)
  from_one item old new call step (inl there) = elim (cases_eq there.0 call.seat) [
    | inl own ↦ from_own item old new call step (Contains-append_left (new call.seat) call.handed item (subst (λ (n : ℕ). Contains (new n) item) own there.1))
    | inr other ↦ inl (there.0, subst (λ (l : List Ticket). Contains l item) (step.others there.0 other) there.1)
  ]

  -- what an item that was usable in between owes to the first call
  before : (item : Ticket) (old : ℕ → List Ticket) (call : Call T H P g h) (calls : List (Call T H P g h)) → IsUsable old item ⊎ (Contains (ripe_tickets call.brought) item ⊎ Contains (keg_tickets call.brought) item)
      → IsUsable old item ⊎ (FindsRipe (call ∷ calls) item ⊎ GetsFromKeg (call ∷ calls) item)
  before item old call calls (inl was) = inl was
  before item old call calls (inr (inl ripe)) = inr (inl (inl ripe))
  before item old call calls (inr (inr keg)) = inr (inr (inl keg))

  -- what an item owes to the later calls, it owes to all of them
  later : (item : Ticket) (old next : ℕ → List Ticket) (call : Call T H P g h) (calls : List (Call T H P g h)) → Happens old call next → IsUsable next item ⊎ (FindsRipe calls item ⊎ GetsFromKeg calls item)
      → IsUsable old item ⊎ (FindsRipe (call ∷ calls) item ⊎ GetsFromKeg (call ∷ calls) item)
  later item old next call calls step (inl there) = before item old call calls (from_one item old next call step (inl there))
  later item old next call calls step (inr (inl ripe)) = inr (inl (inr ripe))
  later item old next call calls step (inr (inr keg)) = inr (inr (inr keg))

  comes_from : (item : Ticket) (old new : ℕ → List Ticket) (calls : List (Call T H P g h)) → Happen old calls new → IsUsable new item ⊎ HandsOut calls item
      → IsUsable old item ⊎ (FindsRipe calls item ⊎ GetsFromKeg calls item)
  comes_from item old new [] happen (inl there) = inl (there.0, subst (λ (l : List Ticket). Contains l item) (happen there.0) there.1)
  comes_from item old new [] happen (inr none) = absurd none
  comes_from item old new (call ∷ calls) happen (inl there) = later item old happen.0 call calls happen.1 (comes_from item happen.0 new calls happen.2 (inl there))
  comes_from item old new (call ∷ calls) happen (inr (inl handed)) = before item old call calls (from_one item old happen.0 call happen.1 (inr handed))
  comes_from item old new (call ∷ calls) happen (inr (inr handed)) = later item old happen.0 call calls happen.1 (comes_from item happen.0 new calls happen.2 (inr handed))

  pub freed_wait : FreedWait T H P g h
  freed_wait item old new calls not_usable happen so = elim (comes_from item old new calls happen so) [
    | inl was ↦ absurd (not_usable was)
    | inr brought ↦ brought
  ]
