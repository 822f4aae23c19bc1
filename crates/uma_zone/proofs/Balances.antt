-- What a request hands out and leaves usable is what was usable and what it brought.
use Rattle.std.proofs.Common.{◌≡◌, ℕ, Bool, true, cond, List, [], ◌∷◌, ◌++◌, map, inl, inr, refl, sym, ap, ◌∙◌}
use Rattle.std.proofs.lemmas.List.{append-nil, map-append}
use Rattle.uma_life.specs.declared.states.Cached.{Cached}
use Rattle.uma_life.specs.declared.states.Ticket.{Ticket}
use Rattle.uma_life.specs.Cached.{cached_ticket}
use Rattle.uma_life.specs.Live.{live_ticket}
use Rattle.zone_stats.specs.declared.refusal.Refusal.TheVariants.{AtLimit, Reserved, Full, Init, Ctor}
use Rattle.uma_bucket.specs.declared.freed.Freed.{Freed}
use Rattle.uma_bucket.specs.Bucket.{items_of}
use Rattle.uma_bucket.specs.Finished.{AreFinished}
use Rattle.uma_bucket.specs.Freed.{freed_ticket}
use Rattle.uma_bucket.specs.Loose.{loose_items, loose_tickets}
use Rattle.uma_bucket.specs.Ripe.{ripe_bucket}
use Rattle.uma_seat.specs.declared.seat.SeatCache.{SeatCache}
use Rattle.uma_seat.specs.Row.{stacks_of}
use Rattle.uma_seat.specs.Seat.{usable_of}
use Rattle.uma_seat.specs.Stack.{stack_at}
use Rattle.uma_zone.specs.declared.zone.alloc.AllocRefused.TheVariants.{Refused, Memory}
use Rattle.uma_zone.specs.declared.zone.Zone.{Zone}
use Rattle.uma_zone.specs.Zone.{zone_smr}
use Rattle.uma_zone.specs.Alloc.{TakesUsable}
use Rattle.uma_zone.specs.SafeReuse.{Brought, Nothing, FromRipe, FromKeg, Balances, usable_tickets, ServedBalances, RefusedBalances, KeptBalances}

-- the items of a ripe bucket kept their tickets
finished_tickets : {T : Type 0} {g : _} (leaves : T → ℕ → T → Type 0) (freed : List (Freed T g)) (items : List (Cached T g)) → AreFinished leaves freed items → map cached_ticket items ≡ map freed_ticket freed
finished_tickets leaves [] [] finished = refl
finished_tickets leaves [] (item ∷ items) finished = absurd finished
finished_tickets leaves (f ∷ freed) [] finished = absurd finished
finished_tickets leaves (f ∷ freed) (item ∷ items) finished =
    let first = finished.0.ticket in
    let rest = finished_tickets leaves freed items finished.1 in
    λ i. first i ∷ rest i

-- the last of some items, by another name, behind the others
handed_last : {A : Type 0} (f : A → Ticket) (left : List A) (item : A) (t : Ticket) → t ≡ f item → map f left ++ t ∷ [] ≡ map f (left ++ item ∷ [])
handed_last f left item t same = ap (λ (x : Ticket). map f left ++ x ∷ []) same ∙ sym (map-append f left (item ∷ []))

-- what is usable depends on these alone
usable_kept : {T H P : Type 0} {g h : _} (old new : SeatCache T H P g h) → new.seating ≡ old.seating → new.top ≡ old.top → new.plain ≡ old.plain → usable_of new ≡ usable_of old
usable_kept old new made top plain = λ i. cond (made i).smr [] (stack_at (stacks_of (plain i)) (made i).domain).items ++ items_of (top i)

module _ {T H P : Type 0} {g h : _} where
  -- no item was usable before or is after
  still_nothing : (old new : SeatCache T H P g h) → usable_of old ≡ [] → usable_of new ≡ [] → (brought : Brought T H P g h) × Balances (usable_tickets old) brought [] (usable_tickets new)
  still_nothing old new was is = (Nothing, ap (λ (l : List (Cached T g)). map cached_ticket l ++ []) is ∙ ap (λ (l : List (Cached T g)). map cached_ticket l ++ [] ++ []) (sym was))

  pub kept_balances : (old new : SeatCache T H P g h) → KeptBalances old new
  kept_balances old new same top plain =
      let usable : usable_of new ≡ usable_of old = usable_kept old new same.0 top plain in
      append-nil (usable_tickets new) ∙ ap (map cached_ticket) usable ∙ sym (append-nil (usable_tickets old)) ∙ sym (append-nil (usable_tickets old ++ []))

module _ {T K H P : Type 0} {g k h : _} where
  -- where the items come from of which a request takes the last
  taken : (zone : Zone T K H P g k h) (reserve : Bool) (old new : SeatCache T H P g h) (item : Cached T g) (left : List (Cached T g)) (all : List Ticket) → zone_smr zone ≡ true → TakesUsable zone reserve old item left new → all ≡ map cached_ticket (left ++ item ∷ [])
      → (brought : Brought T H P g h) × Balances (usable_tickets old) brought [] all
  taken zone reserve old new item left all smr takes is = elim takes [
    | inl own ↦ (Nothing, append-nil all ∙ is ∙ sym (ap (map cached_ticket) own.last) ∙ sym (append-nil (usable_tickets old)) ∙ sym (append-nil (usable_tickets old ++ [])))
    | inr (inl listed) ↦
        let found = listed.reused smr in
        let waited = ripe_bucket found.ripe in
        let same = finished_tickets (k.leaves_dtor zone.hooks) (loose_items waited) (left ++ item ∷ []) found.finished in (
          FromRipe record { ripe = found.ripe; expired = found.expired; over = found.over },
          append-nil all ∙ is ∙ same ∙ sym (append-nil (loose_tickets waited)) ∙ ap (λ (l : List (Cached T g)). map cached_ticket l ++ loose_tickets waited ++ []) (sym listed.empty),
        )
    | inr (inr fetched) ↦ (FromKeg all, append-nil all ∙ ap (λ (l : List (Cached T g)). map cached_ticket l ++ [] ++ all) (sym fetched.empty))
  ]

  pub served_balances : (zone : Zone T K H P g k h) → ServedBalances zone
  served_balances zone ask old new live smr serves =
      let item = serves.item in
      let all = handed_last cached_ticket (usable_of new) item (live_ticket live) serves.built.ticket in
      let b = taken zone ask.reserve old new item (usable_of new) (usable_tickets new ++ live_ticket live ∷ []) smr serves.takes all in
      (b.0, sym (append-nil (usable_tickets new ++ live_ticket live ∷ [])) ∙ b.1)

  pub refused_balances : (zone : Zone T K H P g k h) → RefusedBalances zone
  refused_balances zone ask old new (Refused (AtLimit out limit)) smr why = still_nothing old new why.empty why.still
  refused_balances zone ask old new (Refused (Reserved free reserve)) smr why = still_nothing old new why.empty why.still
  refused_balances zone ask old new (Refused (Full slabs made)) smr why = still_nothing old new why.empty why.still
  refused_balances zone ask old new (Refused (Init code)) smr why = still_nothing old new why.empty why.still
  refused_balances zone ask old new (Refused (Ctor code)) smr why = taken zone ask.reserve old new why.item why.left (usable_tickets new) smr why.takes (ap (map cached_ticket) why.back)
  refused_balances zone ask old new Memory smr why = still_nothing old new why.empty why.still
