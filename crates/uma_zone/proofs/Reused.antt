-- An item that was freed comes back out of a bucket whose goal was made in its free or later: forward over the calls, by what is known of each place.
use Rattle.std.proofs.Common.{◌≡◌, ◌≢◌, ◌⊎◌, ℕ, Bool, true, false, List, [], ◌∷◌, ◌++◌, length, map, get_or, set, inl, inr, refl, sym, ap, ◌∙◌, subst}
use Rattle.std.specs.List.{Contains}
use Rattle.std.proofs.Math.Bool.{Bool-set}
use Rattle.std.proofs.lemmas.Bool.{cases_eq, cases_lt}
use Rattle.std.proofs.lemmas.List.{append-nil, append_assoc, map_push, set_past, get_or-set_same, get_or-set_other}
use Rattle.std.proofs.lemmas.List.Elements.{Contains-append_left, Contains-append_right, Contains-append_cases, Contains-push, Contains-push_cases}
use Rattle.smr_clock.specs.declared.pass.Goal.{Goal}
use Rattle.smr_clock.specs.declared.host.Host.{Ghosts as HostGhosts}
use Rattle.smr_clock.specs.declared.view.View.{View}
use Rattle.uma_life.specs.declared.hooks.Body.{Ghosts}
use Rattle.uma_life.specs.declared.states.Live.{Live}
use Rattle.uma_life.specs.declared.states.Ticket.{Ticket}
use Rattle.uma_life.specs.Cached.{cached_ticket}
use Rattle.uma_life.specs.Live.{live_domain, live_ticket}
use Rattle.uma_bucket.specs.declared.freed.Freed.{Freed}
use Rattle.uma_bucket.specs.declared.freed.Loose.{Loose}
use Rattle.uma_bucket.specs.declared.freed.Sealed.{Sealed}
use Rattle.uma_bucket.specs.declared.shelved.Shelved.{Shelved}
use Rattle.uma_bucket.specs.declared.shelved.Shelved.TheVariants.{Plain, Loose as Loose', Sealed as Sealed'}
use Rattle.uma_bucket.specs.Freed.{freed_item, freed_ticket}
use Rattle.uma_bucket.specs.Loose.{loose_items, loose_tickets}
use Rattle.uma_bucket.specs.Ripe.{ripe_bucket, ripe_goal}
use Rattle.uma_bucket.specs.Sealed.{Seals, sealed_bucket, sealed_goal}
use Rattle.uma_seat.specs.Freeing.{ShelvesFreed, IsTried}
use Rattle.uma_seat.specs.declared.seat.SeatCache.{SeatCache}
use Rattle.uma_seat.specs.Row.{freed_stacks}
use Rattle.uma_seat.specs.Seat.{freed_of}
use Rattle.uma_seat.specs.Stack.{Stack, stack_at, empty_stack}
use Rattle.uma_zone.specs.SafeReuse.{Brought, Nothing, FromRipe, FromKeg, Call, IsUsable, ripe_tickets, keg_tickets, usable_tickets}
use Rattle.uma_zone.specs.SealLaw.{SmrFree, is_filled_by, with_freed}
use Rattle.uma_zone.proofs.Sealed.{either, none_of}
use Rattle.uma_zone.specs.ReuseLaw.{Waiting, Places, IsDeferred, IsLoose, IsAway, Seal, Step, Frees, Tries, Asks, Gives, Shelves, Takes, Freeing, Sealing, Asking, Giving, Does, Run, MakesGoal, GoalAfterFree, Waited, IsFetched, IsHanded, FreesAreSteps, TriesAreSteps, RequestsAreSteps, FreedWaitForLaterGoal, WaitsForLaterGoal}

-- ---- lists

-- what is in a list, from which one was taken, was in it
put_back : {A : Type 0} (before behind : List A) (y x : A) → Contains (before ++ behind) x → Contains (before ++ y ∷ behind) x
put_back before behind y x has = elim (Contains-append_cases before behind x has) [
  | inl left ↦ Contains-append_left before (y ∷ behind) x left
  | inr right ↦ Contains-append_right before (y ∷ behind) x (Contains-append_right (y ∷ []) behind x right)
]

the_middle : {A : Type 0} (before behind : List A) (y : A) → Contains (before ++ y ∷ behind) y
the_middle before behind y = Contains-append_right before (y ∷ behind) y (Contains-append_left (y ∷ []) behind y (Contains-push [] y))

true_not_false : (b : Bool) → b ≡ true → b ≡ false → ⊥
true_not_false b is not = cc

-- one more call behind a split
push_split : {A : Type 0} (steps before behind : List A) (x y : A) → steps ≡ before ++ x ∷ behind → steps ++ y ∷ [] ≡ before ++ x ∷ (behind ++ y ∷ [])
push_split {A = A} steps before behind x y split =
    let same : (before ++ x ∷ behind) ++ y ∷ [] ≡ before ++ x ∷ (behind ++ y ∷ []) = append_assoc before (x ∷ behind) (y ∷ []) in
    ap (λ (l : List A). l ++ y ∷ []) split ∙ same

-- a bucket of a row in which one was replaced is that one, or the one that was there
placed : {A : Type 0} (Q : Stack A → Type 0) (stacks : List (Stack A)) (at domain : ℕ) (stack : Stack A) → Q (stack_at (set stacks at stack) domain) → Q stack ⊎ Q (stack_at stacks domain)
placed Q stacks at domain stack has = elim (cases_eq domain at) [
  | inl same ↦ elim (cases_lt at (length stacks)) [
    | inl within ↦ inl (subst Q (ap (λ (n : ℕ). get_or (set stacks at stack) n (empty_stack 0)) same ∙ get_or-set_same stacks at stack (empty_stack 0) within) has)
    | inr past ↦ inr (subst (λ (l : List (Stack _)). Q (stack_at l domain)) (set_past stacks at stack past) has)
  ]
  | inr other ↦ inr (subst Q (get_or-set_other stacks at domain stack (empty_stack 0) other) has)
]

-- a bucket's tickets are those of the items that were freed into it
tickets_freed : {T : Type 0} {g : _} (items : List (Freed T g)) → map freed_ticket items ≡ map live_ticket (map freed_item items)
tickets_freed [] = refl
tickets_freed (freed ∷ items) = ap (λ (l : List Ticket). freed_ticket freed ∷ l) (tickets_freed items)

-- ---- a place that stays

usable_still : (item : Ticket) (old new : ℕ → List Ticket) → ((each : ℕ) → new each ≡ old each) → IsUsable new item → IsUsable old item
usable_still item old new kept there = (there.0, subst (λ (l : List Ticket). Contains l item) (kept there.0) there.1)

deferred_still : {T : Type 0} {g : Ghosts T} (item : Ticket) (old new : Places T g) → ((each : ℕ) → new.deferred each ≡ old.deferred each) → IsDeferred new item → IsDeferred old item
deferred_still {T = T} {g = g} item old new kept there = (there.0, there.1, subst (λ (l : List (Stack (Live T g))). Contains (map live_ticket (stack_at l there.1).items) item) (kept there.0) there.2)

loose_still : {T : Type 0} {g : Ghosts T} (item : Ticket) (old new : Places T g) → new.loose ≡ old.loose → IsLoose new item → IsLoose old item
loose_still {T = T} {g = g} item old new kept there = (there.0, subst (λ (l : List (Loose T g)). Contains l there.0) kept there.1, there.2)

module _ {T H P : Type 0} {g : Ghosts T} {h : HostGhosts H P} (copied : P → P) (item : Ticket) where
  -- ---- what calls so far show

  -- a free of the item is among them
  record IsFreed (steps : List (Step T H P g h copied)) : Type 0 where
    earlier : List (Step T H P g h copied)
    seat : ℕ
    free : SmrFree T H P g h copied
    later : List (Step T H P g h copied)
    split : steps ≡ earlier ++ Frees seat free ∷ later
    freed : live_ticket free.live ≡ item

  abbrev IsBack : List (Step T H P g h copied) → Type 0
  IsBack steps = Waited steps item ⊎ IsFetched steps item

  -- what they show of each place that has the item
  record Known (steps : List (Step T H P g h copied)) (places : Places T g) : Type 0 where
    usable : IsUsable places.usable item → IsBack steps
    deferred : IsDeferred places item → IsFreed steps
    loose : IsLoose places item → IsFreed steps
    waiting : (one : Waiting T g) → Contains places.waiting one → Contains (loose_tickets one.bucket) item → GoalAfterFree steps item one.bucket one.goal

  -- ---- they show it still with one call more

  freed_still : (steps : List (Step T H P g h copied)) (step : Step T H P g h copied) → IsFreed steps → IsFreed (steps ++ step ∷ [])
  freed_still steps step was = record { earlier = was.earlier; seat = was.seat; free = was.free; later = was.later ++ step ∷ []; split = push_split steps was.earlier was.later (Frees was.seat was.free) step was.split; freed = was.freed }

  goal_still : (steps : List (Step T H P g h copied)) (step : Step T H P g h copied) (bucket : Loose T g) (goal : Goal) → GoalAfterFree steps item bucket goal → GoalAfterFree (steps ++ step ∷ []) item bucket goal
  goal_still steps step bucket goal was = record {
    earlier = was.earlier;
    seat = was.seat;
    free = was.free;
    later = was.later ++ step ∷ [];
    split = push_split steps was.earlier was.later (Frees was.seat was.free) step was.split;
    freed = was.freed;
    seal = was.seal;
    at_or_after = Contains-append_left (Frees was.seat was.free ∷ was.later) (step ∷ []) was.seal was.at_or_after;
    makes = was.makes;
  }

  back_still : (steps : List (Step T H P g h copied)) (step : Step T H P g h copied) → IsBack steps → IsBack (steps ++ step ∷ [])
  back_still steps step (inl was) = inl record {
    before = was.before;
    call = was.call;
    behind = was.behind ++ step ∷ [];
    split = push_split steps was.before was.behind (Asks was.call) step was.split;
    bucket = was.bucket;
    found = was.found;
    has = was.has;
    goal = was.goal;
  }
  back_still steps step (inr (call, has, from)) = inr (call, Contains-append_left steps (step ∷ []) (Asks call) has, from)

  -- the call that comes makes the goal, and the item was freed before
  goal_later : (steps : List (Step T H P g h copied)) (step : Step T H P g h copied) (bucket : Loose T g) (goal : Goal) → MakesGoal step bucket goal → IsFreed steps → GoalAfterFree (steps ++ step ∷ []) item bucket goal
  goal_later steps step bucket goal makes was = record {
    earlier = was.earlier;
    seat = was.seat;
    free = was.free;
    later = was.later ++ step ∷ [];
    split = push_split steps was.earlier was.later (Frees was.seat was.free) step was.split;
    freed = was.freed;
    seal = step;
    at_or_after = Contains-append_right (Frees was.seat was.free ∷ was.later) (step ∷ []) step (Contains-push [] step);
    makes = makes;
  }

  -- or it is this very free of it
  freed_now : (steps : List (Step T H P g h copied)) (seat : ℕ) (free : SmrFree T H P g h copied) → live_ticket free.live ≡ item → IsFreed (steps ++ Frees seat free ∷ [])
  freed_now steps seat free same = record { earlier = steps; seat = seat; free = free; later = []; split = refl; freed = same }

  goal_now : (steps : List (Step T H P g h copied)) (seat : ℕ) (free : SmrFree T H P g h copied) (bucket : Loose T g) (goal : Goal) → MakesGoal (Frees seat free) bucket goal → live_ticket free.live ≡ item → GoalAfterFree (steps ++ Frees seat free ∷ []) item bucket goal
  goal_now steps seat free bucket goal makes same = record { earlier = steps; seat = seat; free = free; later = []; split = refl; freed = same; seal = Frees seat free; at_or_after = Contains-push [] (Frees seat free); makes = makes }

  -- ---- a free

  -- what has the item on the seat was there, or is this free's
  in_stack : (old : Places T g) (seat domain : ℕ) (free : SmrFree T H P g h copied) → old.deferred seat ≡ freed_of free.old → Contains (map live_ticket (stack_at (freed_of free.old) domain).items) item → IsDeferred old item
  in_stack old seat domain free was has = (seat, domain, subst (λ (l : List (Stack (Live T g))). Contains (map live_ticket (stack_at l domain).items) item) (sym was) has)

  with_own : (old : Places T g) (seat : ℕ) (free : SmrFree T H P g h copied) → old.deferred seat ≡ freed_of free.old → Contains (map live_ticket (with_freed free.old free.live).items) item → IsDeferred old item ⊎ (live_ticket free.live ≡ item)
  with_own old seat free was has =
      let own = live_domain free.live in
      let items = (stack_at (freed_of free.old) own).items in
      elim (Contains-push_cases (map live_ticket items) (live_ticket free.live) item (subst (λ (l : List Ticket). Contains l item) (map_push live_ticket items free.live) has)) [
        | inl there ↦ inl (in_stack old seat own free was there)
        | inr same ↦ inr same
      ]

  in_bucket : (old : Places T g) (seat : ℕ) (free : SmrFree T H P g h copied) → old.deferred seat ≡ freed_of free.old
      → (shelves : ShelvesFreed copied free.v free.old (live_domain free.live) (with_freed free.old free.live) free.new free.v') → Contains (loose_tickets shelves.loose) item → IsDeferred old item ⊎ (live_ticket free.live ≡ item)
  in_bucket old seat free was shelves has =
      let freed = subst (λ (l : List Ticket). Contains l item) (tickets_freed (loose_items shelves.loose)) has in
      with_own old seat free was (subst (λ (s : Stack (Live T g)). Contains (map live_ticket s.items) item) shelves.is_full freed)

  on_seat : (old : Places T g) (seat domain : ℕ) (free : SmrFree T H P g h copied) → old.deferred seat ≡ freed_of free.old → Contains (map live_ticket (stack_at (freed_of free.new) domain).items) item → IsDeferred old item ⊎ (live_ticket free.live ≡ item)
  on_seat old seat domain free was has =
      let own = live_domain free.live in
      let Has = λ (s : Stack (Live T g)). Contains (map live_ticket s.items) item in
      either (is_filled_by free.old free.live)
      (λ full.
      let shelves = free.full full in
      elim (placed Has (freed_of free.old) own domain (empty_stack shelves.room) (subst (λ (l : List (Stack (Live T g))). Has (stack_at l domain)) shelves.buckets has)) [
        | inl none ↦ absurd (none_of [] item refl none)
        | inr there ↦ inl (in_stack old seat domain free was there)
      ])
      (λ room.
      elim (placed Has (freed_of free.old) own domain (with_freed free.old free.live) (subst (λ (l : List (Stack (Live T g))). Has (stack_at l domain)) (free.put room) has)) [
        | inl here ↦ with_own old seat free was here
        | inr there ↦ inl (in_stack old seat domain free was there)
      ])

  deferred_after : (old new : Places T g) (seat : ℕ) (free : SmrFree T H P g h copied) → Freeing copied old seat free new → IsDeferred new item → IsDeferred old item ⊎ (live_ticket free.live ≡ item)
  deferred_after old new seat free does there = elim (cases_eq there.0 seat) [
    | inl same ↦ on_seat old seat there.1 free does.was (subst (λ (l : List (Stack (Live T g))). Contains (map live_ticket (stack_at l there.1).items) item) (ap new.deferred same ∙ does.is) there.2)
    | inr other ↦ inl (there.0, there.1, subst (λ (l : List (Stack (Live T g))). Contains (map live_ticket (stack_at l there.1).items) item) (does.others there.0 other) there.2)
  ]

  shelved_loose : (v v' : View P) (domain : ℕ) (loose : Loose T g) (old new : Places T g) (newest : Shelved T H P g h) → IsTried copied v domain loose newest v' → Shelves old newest new → IsLoose new item → IsLoose old item ⊎ Contains (loose_tickets loose) item
  shelved_loose v v' domain loose old new (Sealed' number sealed) tried does there = inl (loose_still item old new does.0 there)
  shelved_loose v v' domain loose old new (Loose' number back) tried does there = elim (Contains-push_cases old.loose back there.0 (subst (λ (l : List (Loose T g)). Contains l there.0) does.0 there.1)) [
    | inl was ↦ inl (there.0, was, there.2)
    | inr same ↦ inr (subst (λ (b : Loose T g). Contains (loose_tickets b) item) (sym same ∙ tried.1) there.2)
  ]
  shelved_loose v v' domain loose old new (Plain number bucket) tried does there = absurd does

  shelved_waiting : (v v' : View P) (domain : ℕ) (loose : Loose T g) (old new : Places T g) (newest : Shelved T H P g h) → IsTried copied v domain loose newest v' → Shelves old newest new
      → (one : Waiting T g) → Contains new.waiting one → Contains (loose_tickets one.bucket) item → Contains old.waiting one ⊎ (Contains (loose_tickets loose) item × ((sealed : Sealed T H P g h) × (sealed_goal sealed ≡ one.goal) × Seals copied v one.bucket sealed v'))
  shelved_waiting v v' domain loose old new (Sealed' number sealed) tried does one there has = elim (Contains-push_cases old.waiting (record { bucket = sealed_bucket sealed; goal = sealed_goal sealed }) one (subst (λ (l : List (Waiting T g)). Contains l one) does.1 there)) [
    | inl was ↦ inl was
    | inr same ↦
        let seals = tried.1 in
        let bucket : loose ≡ one.bucket = sym seals.bucket ∙ ap (λ (w : Waiting T g). w.bucket) same in
        inr (subst (λ (b : Loose T g). Contains (loose_tickets b) item) (sym bucket) has, (sealed, ap (λ (w : Waiting T g). w.goal) same, subst (λ (b : Loose T g). Seals copied v b sealed v') bucket seals))
  ]
  shelved_waiting v v' domain loose old new (Loose' number back) tried does one there has = inl (subst (λ (l : List (Waiting T g)). Contains l one) does.1 there)
  shelved_waiting v v' domain loose old new (Plain number bucket) tried does one there has = absurd does

  -- what has it then was freed before, or in this free
  freed_by_now : (steps : List (Step T H P g h copied)) (seat : ℕ) (free : SmrFree T H P g h copied) → IsFreed steps ⊎ (live_ticket free.live ≡ item) → IsFreed (steps ++ Frees seat free ∷ [])
  freed_by_now steps seat free (inl was) = freed_still steps (Frees seat free) was
  freed_by_now steps seat free (inr same) = freed_now steps seat free same

  goal_by_now : (steps : List (Step T H P g h copied)) (seat : ℕ) (free : SmrFree T H P g h copied) (bucket : Loose T g) (goal : Goal) → MakesGoal (Frees seat free) bucket goal → IsFreed steps ⊎ (live_ticket free.live ≡ item) → GoalAfterFree (steps ++ Frees seat free ∷ []) item bucket goal
  goal_by_now steps seat free bucket goal makes (inl was) = goal_later steps (Frees seat free) bucket goal makes was
  goal_by_now steps seat free bucket goal makes (inr same) = goal_now steps seat free bucket goal makes same

  was_or_own : (steps : List (Step T H P g h copied)) (old : Places T g) (free : SmrFree T H P g h copied) → Known steps old → IsDeferred old item ⊎ (live_ticket free.live ≡ item) → IsFreed steps ⊎ (live_ticket free.live ≡ item)
  was_or_own steps old free known (inl there) = inl (known.deferred there)
  was_or_own steps old free known (inr same) = inr same

  after_free : (steps : List (Step T H P g h copied)) (old new : Places T g) (seat : ℕ) (free : SmrFree T H P g h copied) → Known steps old → Freeing copied old seat free new → Known (steps ++ Frees seat free ∷ []) new
  after_free steps old new seat free known does =
      let step : Step T H P g h copied = Frees seat free in
      record {
        usable = λ there. back_still steps step (known.usable (usable_still item old.usable new.usable does.usable there));
        deferred = λ there. freed_by_now steps seat free (was_or_own steps old free known (deferred_after old new seat free does there));
        loose = λ there.
            either (is_filled_by free.old free.live)
            (λ filled.
            let shelves = free.full filled in
            elim (shelved_loose free.v free.v' (live_domain free.live) shelves.loose old new shelves.newest shelves.tried (does.full filled) there) [
              | inl was ↦ freed_still steps step (known.loose was)
              | inr has ↦ freed_by_now steps seat free (was_or_own steps old free known (in_bucket old seat free does.was shelves has))
            ])
            (λ room. freed_still steps step (known.loose (loose_still item old new (does.put room).0 there)));
        waiting = λ one there has.
            either (is_filled_by free.old free.live)
            (λ filled.
            let shelves = free.full filled in
            elim (shelved_waiting free.v free.v' (live_domain free.live) shelves.loose old new shelves.newest shelves.tried (does.full filled) one there has) [
              | inl was ↦ goal_still steps step one.bucket one.goal (known.waiting one was has)
              | inr sealed ↦ goal_by_now steps seat free one.bucket one.goal sealed.1 (was_or_own steps old free known (in_bucket old seat free does.was shelves sealed.0))
            ])
            (λ room. goal_still steps step one.bucket one.goal (known.waiting one (subst (λ (l : List (Waiting T g)). Contains l one) (does.put room).1 there) has));
      }

  -- ---- a try that sealed

  after_seal : (steps : List (Step T H P g h copied)) (old new : Places T g) (seal : Seal T H P g h copied) → Known steps old → Sealing copied old seal new → Known (steps ++ Tries seal ∷ []) new
  after_seal steps old new seal known does =
      let step : Step T H P g h copied = Tries seal in
      record {
        usable = λ there. back_still steps step (known.usable (usable_still item old.usable new.usable does.usable there));
        deferred = λ there. freed_still steps step (known.deferred (deferred_still item old new does.deferred there));
        loose = λ there.
            let was = put_back does.before does.behind seal.loose there.0 (subst (λ (l : List (Loose T g)). Contains l there.0) does.is there.1) in
            freed_still steps step (known.loose (there.0, subst (λ (l : List (Loose T g)). Contains l there.0) (sym does.was) was, there.2));
        waiting = λ one there has.
            elim (Contains-push_cases old.waiting (record { bucket = sealed_bucket seal.sealed; goal = sealed_goal seal.sealed }) one (subst (λ (l : List (Waiting T g)). Contains l one) does.waiting there)) [
              | inl was ↦ goal_still steps step one.bucket one.goal (known.waiting one was has)
              | inr same ↦
                  let bucket : seal.loose ≡ one.bucket = sym seal.seals.bucket ∙ ap (λ (w : Waiting T g). w.bucket) same in
                  let makes : MakesGoal (Tries seal) one.bucket one.goal = (seal.sealed, ap (λ (w : Waiting T g). w.goal) same, subst (λ (b : Loose T g). Seals copied seal.v b seal.sealed seal.v') bucket seal.seals) in
                  let among = subst (λ (l : List (Loose T g)). Contains l seal.loose) (sym does.was) (the_middle does.before does.behind seal.loose) in
                  goal_later steps step one.bucket one.goal makes (known.loose (seal.loose, among, subst (λ (b : Loose T g). Contains (loose_tickets b) item) (sym bucket) has))
            ];
      }

  -- ---- a request

  -- what it found ripe waited
  found : (steps : List (Step T H P g h copied)) (old new : Places T g) (call : Call T H P g h) (brought : Brought T H P g h) → call.brought ≡ brought → Known steps old → Takes old.waiting brought new.waiting → Contains (ripe_tickets brought) item → Waited (steps ++ Asks call ∷ []) item
  found steps old new call Nothing is known takes has = absurd (none_of [] item refl has)
  found steps old new call (FromKeg tickets) is known takes has = absurd (none_of [] item refl has)
  found steps old new call (FromRipe bucket) is known takes has =
      let one : Waiting T g = record { bucket = ripe_bucket bucket.ripe; goal = ripe_goal bucket.ripe } in
      let among = subst (λ (l : List (Waiting T g)). Contains l one) (sym takes.2) (the_middle takes.0 takes.1 one) in
      record { before = steps; call = call; behind = []; split = refl; bucket = bucket; found = is; has = has; goal = known.waiting one among has }

  still_waiting : (old new : Places T g) (brought : Brought T H P g h) (one : Waiting T g) → Takes old.waiting brought new.waiting → Contains new.waiting one → Contains old.waiting one
  still_waiting old new Nothing one takes there = subst (λ (l : List (Waiting T g)). Contains l one) takes there
  still_waiting old new (FromKeg tickets) one takes there = subst (λ (l : List (Waiting T g)). Contains l one) takes there
  still_waiting old new (FromRipe bucket) one takes there =
      subst (λ (l : List (Waiting T g)). Contains l one) (sym takes.2) (put_back takes.0 takes.1 (record { bucket = ripe_bucket bucket.ripe; goal = ripe_goal bucket.ripe }) one (subst (λ (l : List (Waiting T g)). Contains l one) takes.3 there))

  brought_back : (steps : List (Step T H P g h copied)) (old new : Places T g) (call : Call T H P g h) → Known steps old → Asking old call new → Contains (new.usable call.seat ++ call.handed) item → IsBack (steps ++ Asks call ∷ [])
  brought_back steps old new call known does has = elim (Contains-append_cases (old.usable call.seat ++ ripe_tickets call.brought) (keg_tickets call.brought) item (subst (λ (l : List Ticket). Contains l item) does.usable.own has)) [
    | inr keg ↦ inr (call, Contains-push steps (Asks call), keg)
    | inl first ↦ elim (Contains-append_cases (old.usable call.seat) (ripe_tickets call.brought) item first) [
      | inl was ↦ back_still steps (Asks call) (known.usable (call.seat, was))
      | inr ripe ↦ inl (found steps old new call call.brought refl known does.waiting ripe)
    ]
  ]

  after_ask : (steps : List (Step T H P g h copied)) (old new : Places T g) (call : Call T H P g h) → Known steps old → Asking old call new → Known (steps ++ Asks call ∷ []) new
  after_ask steps old new call known does =
      let step : Step T H P g h copied = Asks call in
      record {
        usable = λ there. elim (cases_eq there.0 call.seat) [
          | inl own ↦ brought_back steps old new call known does (Contains-append_left (new.usable call.seat) call.handed item (subst (λ (n : ℕ). Contains (new.usable n) item) own there.1))
          | inr other ↦ back_still steps step (known.usable (there.0, subst (λ (l : List Ticket). Contains l item) (does.usable.others there.0 other) there.1))
        ];
        deferred = λ there. freed_still steps step (known.deferred (deferred_still item old new does.deferred there));
        loose = λ there. freed_still steps step (known.loose (loose_still item old new does.loose there));
        waiting = λ one there has. goal_still steps step one.bucket one.goal (known.waiting one (still_waiting old new call.brought one does.waiting there) has);
      }

  -- ---- a call by which items only go

  after_give : (steps : List (Step T H P g h copied)) (old new : Places T g) → Known steps old → Giving old new → Known (steps ++ Gives ∷ []) new
  after_give steps old new known does =
      let step : Step T H P g h copied = Gives in
      record {
        usable = λ there. back_still steps step (known.usable (there.0, does.usable there.0 item there.1));
        deferred = λ there. freed_still steps step (known.deferred (deferred_still item old new does.deferred there));
        loose = λ there. freed_still steps step (known.loose (loose_still item old new does.loose there));
        waiting = λ one there has. goal_still steps step one.bucket one.goal (known.waiting one (does.waiting one there) has);
      }

  -- ---- all calls

  after_one : (steps : List (Step T H P g h copied)) (old new : Places T g) (step : Step T H P g h copied) → Known steps old → Does old step new → Known (steps ++ step ∷ []) new
  after_one steps old new (Frees seat free) known does = after_free steps old new seat free known does
  after_one steps old new (Tries seal) known does = after_seal steps old new seal known does
  after_one steps old new (Asks call) known does = after_ask steps old new call known does
  after_one steps old new Gives known does = after_give steps old new known does

  -- what is back after some calls is back after all
  back_at_last : (steps more : List (Step T H P g h copied)) → IsBack steps → IsBack (steps ++ more)
  back_at_last steps [] was = subst IsBack (sym (append-nil steps)) was
  back_at_last steps (step ∷ more) was = subst IsBack (append_assoc steps (step ∷ []) more) (back_at_last (steps ++ step ∷ []) more (back_still steps step was))

  comes_back : (steps more : List (Step T H P g h copied)) (old new : Places T g) → Known steps old → Run old more new → IsUsable new.usable item ⊎ IsHanded more item → IsBack (steps ++ more)
  comes_back steps [] old new known run (inl there) = subst IsBack (sym (append-nil steps)) (known.usable (subst (λ (p : Places T g). IsUsable p.usable item) run there))
  comes_back steps [] old new known run (inr none) = absurd none
  comes_back steps (step ∷ more) old new known run (inl there) =
      subst IsBack (append_assoc steps (step ∷ []) more) (comes_back (steps ++ step ∷ []) more run.0 new (after_one steps old run.0 step known run.1) run.2 (inl there))
  comes_back steps (Frees seat free ∷ more) old new known run (inr handed) =
      subst IsBack (append_assoc steps (Frees seat free ∷ []) more) (comes_back (steps ++ Frees seat free ∷ []) more run.0 new (after_one steps old run.0 (Frees seat free) known run.1) run.2 (inr handed))
  comes_back steps (Tries seal ∷ more) old new known run (inr handed) =
      subst IsBack (append_assoc steps (Tries seal ∷ []) more) (comes_back (steps ++ Tries seal ∷ []) more run.0 new (after_one steps old run.0 (Tries seal) known run.1) run.2 (inr handed))
  comes_back steps (Gives ∷ more) old new known run (inr handed) =
      subst IsBack (append_assoc steps (Gives ∷ []) more) (comes_back (steps ++ Gives ∷ []) more run.0 new (after_one steps old run.0 Gives known run.1) run.2 (inr handed))
  comes_back steps (Asks call ∷ more) old new known run (inr (inl handed)) =
      subst IsBack (append_assoc steps (Asks call ∷ []) more) (back_at_last (steps ++ Asks call ∷ []) more (brought_back steps old run.0 call known run.1 (Contains-append_right (run.0.usable call.seat) call.handed item handed)))
  comes_back steps (Asks call ∷ more) old new known run (inr (inr handed)) =
      subst IsBack (append_assoc steps (Asks call ∷ []) more) (comes_back (steps ++ Asks call ∷ []) more run.0 new (after_one steps old run.0 (Asks call) known run.1) run.2 (inr handed))

  -- of an item that is in none of the places there is nothing to know
  nothing_known : (places : Places T g) → IsAway places item → Known [] places
  nothing_known places away = record {
    usable = λ there. absurd (away (inl (inl there)));
    deferred = λ there. absurd (away (inl (inr there)));
    loose = λ there. absurd (away (inr (inl there)));
    waiting = λ one there has. absurd (away (inr (inr (one, there, has))));
  }

-- ---- each call is such a step

-- what a row of seats has where one was replaced
abbrev pick : {A B X : Type 0} → A ⊎ B → X → X → X
pick (inl this) x y = x
pick (inr other) x y = y

pick_own : {X : Type 0} (n own : ℕ) (same : (n ≡ own) ⊎ (n ≢ own)) (x y : X) → n ≡ own → pick same x y ≡ x
pick_own n own (inl same) x y is = refl
pick_own n own (inr other) x y is = absurd (other is)

pick_other : {X : Type 0} (n own : ℕ) (same : (n ≡ own) ⊎ (n ≢ own)) (x y : X) → n ≢ own → pick same x y ≡ y
pick_other n own (inl same) x y other = absurd (other same)
pick_other n own (inr is) x y other = refl

abbrev put_at : {X : Type 0} → ℕ → X → (ℕ → X) → ℕ → X
put_at own x row n = pick (cases_eq n own) x (row n)

module _ {T H P : Type 0} {g : Ghosts T} {h : HostGhosts H P} where
  -- the places after a free
  abbrev freed_places : Places T g → ℕ → SeatCache T H P g h → List (Loose T g) → List (Waiting T g) → Places T g
  freed_places places number new loose waiting = record { usable = places.usable; deferred = put_at number (freed_of new) places.deferred; loose = loose; waiting = waiting }

  -- where the bucket goes that it filled
  goes : (copied : P → P) (v v' : View P) (domain : ℕ) (bucket : Loose T g) (places : Places T g) (number : ℕ) (new : SeatCache T H P g h) (newest : Shelved T H P g h) → IsTried copied v domain bucket newest v'
      → (loose : List (Loose T g)) × (waiting : List (Waiting T g)) × Shelves places newest (freed_places places number new loose waiting)
  goes copied v v' domain bucket places number new (Sealed' named sealed) tried = (places.loose, places.waiting ++ record { bucket = sealed_bucket sealed; goal = sealed_goal sealed } ∷ [], (refl, refl))
  goes copied v v' domain bucket places number new (Loose' named loose) tried = (places.loose ++ loose ∷ [], places.waiting, (refl, refl))
  goes copied v v' domain bucket places number new (Plain named plain) tried = absurd tried

  is_step : (copied : P → P) (places : Places T g) (number : ℕ) (free : SmrFree T H P g h copied) (b : Bool) → is_filled_by free.old free.live ≡ b → places.deferred number ≡ freed_of free.old
      → (loose : List (Loose T g)) × (waiting : List (Waiting T g)) × Freeing copied places number free (freed_places places number free.new loose waiting)
  is_step copied places number free true filled was =
      let shelves = free.full filled in
      let gone = goes copied free.v free.v' (live_domain free.live) shelves.loose places number free.new shelves.newest shelves.tried in (
        gone.0,
        gone.1,
        record {
          was = was;
          is = pick_own number number (cases_eq number number) (freed_of free.new) (places.deferred number) refl;
          others = λ other no. pick_other other number (cases_eq other number) (freed_of free.new) (places.deferred other) no;
          usable = λ each. refl;
          put = λ room. absurd (true_not_false _ filled room);
          full = λ full. subst (λ (e : is_filled_by free.old free.live ≡ true). Shelves places (free.full e).newest (freed_places places number free.new gone.0 gone.1)) (Bool-set _ _ filled full) gone.2;
        },
      )
  is_step copied places number free false room was = (
    places.loose,
    places.waiting,
    record {
      was = was;
      is = pick_own number number (cases_eq number number) (freed_of free.new) (places.deferred number) refl;
      others = λ other no. pick_other other number (cases_eq other number) (freed_of free.new) (places.deferred other) no;
      usable = λ each. refl;
      put = λ so. (refl, refl);
      full = λ full. absurd (true_not_false _ full room);
    },
  )

  frees_are_steps : FreesAreSteps T H P g h
  frees_are_steps copied places number live old new v v' at defers =
      let free : SmrFree T H P g h copied = record { live = live; old = old; new = new; v = v; v' = v'; put = defers.put; full = defers.full } in
      let step = is_step copied places number free (is_filled_by old live) refl at.1 in
      (freed_places places number new step.0 step.1, step.2, (at.0 ∙ ap (map cached_ticket) (sym defers.usable), step.2.is))

  tries_are_steps : TriesAreSteps T H P g h
  tries_are_steps copied clock places before behind sealed was then =
      let one : Waiting T g = record { bucket = sealed_bucket sealed; goal = sealed_goal sealed } in (
        record { usable = places.usable; deferred = places.deferred; loose = before ++ behind; waiting = places.waiting ++ one ∷ [] },
        record { before = before; behind = behind; was = was; is = refl; waiting = refl; usable = λ each. refl; deferred = λ each. refl },
      )

  requests_are_steps : RequestsAreSteps T H P g h
  requests_are_steps places number old new brought handed waiting at balances kept takes =
      let own = pick_own number number (cases_eq number number) (usable_tickets new) (places.usable number) refl in
      let from : usable_tickets new ++ handed ≡ places.usable number ++ ripe_tickets brought ++ keg_tickets brought = balances ∙ ap (λ (l : List Ticket). l ++ ripe_tickets brought ++ keg_tickets brought) (sym at.0) in (
        record { usable = put_at number (usable_tickets new) places.usable; deferred = places.deferred; loose = places.loose; waiting = waiting },
        record {
          usable = record {
            own = ap (λ (l : List Ticket). l ++ handed) own ∙ from;
            others = λ other no. pick_other other number (cases_eq other number) (usable_tickets new) (places.usable other) no;
          };
          waiting = takes;
          loose = refl;
          deferred = λ each. refl;
        },
        (own, at.1 ∙ ap freed_stacks (sym kept)),
      )

  freed_wait_for_later_goal : FreedWaitForLaterGoal T H P g h
  freed_wait_for_later_goal copied item old new steps away run so = comes_back copied item [] steps old new (nothing_known copied item old away) run so

  pub waits_for_later_goal : WaitsForLaterGoal T H P g h
  waits_for_later_goal = record { frees = frees_are_steps; tries = tries_are_steps; requests = requests_are_steps; sequence = freed_wait_for_later_goal }
