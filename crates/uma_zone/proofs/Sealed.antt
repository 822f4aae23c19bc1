-- What is deferred on a seat was freed by a call before.
use Rattle.std.proofs.Common.{◌≡◌, ℕ, Bool, true, false, List, [], ◌∷◌, ◌++◌, All, length, map, get_or, set, inl, inr, refl, ap, ◌∙◌, subst, arith}
use Rattle.std.specs.List.{Contains}
use Rattle.std.proofs.lemmas.Bool.{cases_eq, cases_lt}
use Rattle.std.proofs.lemmas.List.{set_past, get_or_past, get_or-set_same, get_or-set_other}
use Rattle.std.proofs.lemmas.List.Elements.{All-get_or, Contains-append_left, Contains-append_right, Contains-push, Contains-push_cases}
use Rattle.smr_clock.specs.declared.host.Host.{Ghosts as HostGhosts}
use Rattle.uma_life.specs.declared.hooks.Body.{Ghosts}
use Rattle.uma_life.specs.declared.states.Live.{Live}
use Rattle.uma_life.specs.Live.{live_domain}
use Rattle.uma_bucket.specs.declared.shelved.Shelved.{Shelved}
use Rattle.uma_bucket.specs.Freed.{freed_item}
use Rattle.uma_bucket.specs.Loose.{loose_items}
use Rattle.uma_seat.specs.Freeing.{ShelvesFreed, IsTried}
use Rattle.uma_seat.specs.Seat.{freed_of}
use Rattle.uma_seat.specs.Stack.{Stack, stack_at, empty_stack}
use Rattle.uma_zone.specs.SealLaw.{is_filled_by, with_freed, SmrFree, FreesSoFar, lives_of, GoalsAreLater}

pub none_of : {A : Type 0} (xs : List A) (x : A) → xs ≡ [] → Contains xs x → ⊥
none_of xs x none has = let e : length xs ≡ 0 = ap length none in let within = has.1 in absurd (omega (arith, e, within))

pub either : {A : Type 0} (b : Bool) → (b ≡ true → A) → (b ≡ false → A) → A
either true f h = f refl
either false f h = h refl

-- what is in a bucket of a row in which one was replaced
placed : {A : Type 0} (stacks : List (Stack A)) (at domain : ℕ) (stack : Stack A) {Q : Type 0} (item : A) → (Contains stack.items item → Q) → (Contains (stack_at stacks domain).items item → Q) → Contains (stack_at (set stacks at stack) domain).items item → Q
placed stacks at domain stack item here there has = elim (cases_eq domain at) [
  | inl same ↦ elim (cases_lt at (length stacks)) [
    | inl within ↦ here (subst (λ (s : Stack _). Contains s.items item) (ap (λ (n : ℕ). get_or (set stacks at stack) n (empty_stack 0)) same ∙ get_or-set_same stacks at stack (empty_stack 0) within) has)
    | inr past ↦ there (subst (λ (l : List (Stack _)). Contains (stack_at l domain).items item) (set_past stacks at stack past) has)
  ]
  | inr other ↦ there (subst (λ (s : Stack _). Contains s.items item) (get_or-set_other stacks at domain stack (empty_stack 0) other) has)
]

none_deferred : {A : Type 0} (stacks : List (Stack A)) (domain : ℕ) (item : A) → All (λ stack. stack.items ≡ []) stacks → Contains (stack_at stacks domain).items item → ⊥
none_deferred stacks domain item empty has = elim (cases_lt domain (length stacks)) [
  | inl within ↦ none_of (stack_at stacks domain).items item (All-get_or (λ stack. stack.items ≡ []) stacks domain (empty_stack 0) within empty) has
  | inr past ↦ none_of (stack_at stacks domain).items item (ap (λ (s : Stack _). s.items) (get_or_past stacks domain (empty_stack 0) past)) has
]

module _ {T H P : Type 0} {g : Ghosts T} {h : HostGhosts H P} where
  earlier : (copied : P → P) (free : SmrFree T H P g h copied) (before : List (SmrFree T H P g h copied)) (item : Live T g) → Contains (lives_of copied before) item → Contains (lives_of copied (free ∷ before)) item
  earlier copied free before item has = Contains-append_right (free.live ∷ []) (lives_of copied before) item has

  itself : (copied : P → P) (free : SmrFree T H P g h copied) (before : List (SmrFree T H P g h copied)) (item : Live T g) → free.live ≡ item → Contains (lives_of copied (free ∷ before)) item
  itself copied free before item same = Contains-append_left (free.live ∷ []) (lives_of copied before) item (subst (λ (x : Live T g). Contains (free.live ∷ []) x) same (Contains-push [] free.live))

  was_freed : (copied : P → P) (frees : List (SmrFree T H P g h copied)) (stacks : List (Stack (Live T g))) (domain : ℕ) (item : Live T g) → FreesSoFar copied frees stacks → Contains (stack_at stacks domain).items item → Contains (lives_of copied frees) item
  was_freed copied [] stacks domain item none has = absurd (none_deferred stacks domain item none has)
  was_freed copied (free ∷ before) stacks domain item freed has =
      let own = live_domain free.live in
      let old = freed_of free.old in
      let more = λ (d : ℕ) (h : Contains (stack_at old d).items item). earlier copied free before item (was_freed copied before old d item freed.1 h) in
      let there : Contains (stack_at (freed_of free.new) domain).items item = subst (λ (l : List (Stack (Live T g))). Contains (stack_at l domain).items item) freed.0 has in
      either (is_filled_by free.old free.live)
      (λ full.
      let shelves = free.full full in
      placed old own domain (empty_stack shelves.room) item (λ h. absurd (none_of [] item refl h)) (more domain) (subst (λ (l : List (Stack (Live T g))). Contains (stack_at l domain).items item) shelves.buckets there))
      (λ room.
      placed old own domain (with_freed free.old free.live) item
      (λ h. elim (Contains-push_cases (stack_at old own).items free.live item h) [ inl was ↦ more own was | inr same ↦ itself copied free before item same ])
      (more domain) (subst (λ (l : List (Stack (Live T g))). Contains (stack_at l domain).items item) (free.put room) there))

  in_bucket : (copied : P → P) (free : SmrFree T H P g h copied) (before : List (SmrFree T H P g h copied)) (shelves : ShelvesFreed copied free.v free.old (live_domain free.live) (with_freed free.old free.live) free.new free.v') (item : Live T g)
      → FreesSoFar copied before (freed_of free.old) → Contains (map freed_item (loose_items shelves.loose)) item → Contains (lives_of copied (free ∷ before)) item
  in_bucket copied free before shelves item freed has =
      let own = live_domain free.live in
      let full : Contains ((stack_at (freed_of free.old) own).items ++ free.live ∷ []) item = subst (λ (s : Stack (Live T g)). Contains s.items item) shelves.is_full has in
      elim (Contains-push_cases (stack_at (freed_of free.old) own).items free.live item full) [
        | inl was ↦ earlier copied free before item (was_freed copied before (freed_of free.old) own item freed was)
        | inr same ↦ itself copied free before item same
      ]

  pub goals_are_later : GoalsAreLater T H P g h
  goals_are_later copied free before shelves so_far = record {
    freed = λ item has. in_bucket copied free before shelves item so_far has;
    goal = λ number sealed is. (subst (λ (s : Shelved T H P g h). IsTried copied free.v (live_domain free.live) shelves.loose s free.v') is shelves.tried).1;
  }
