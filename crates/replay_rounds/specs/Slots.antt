-- What is lent of slots, what is left in them, and how they are filled again (own). `of` says of a zone's place whether its items are lent.
use Rattle.std.specs.Prelude.{◌≡◌, ◌≤◌, ◌==◌, ℕ, Bool, false, List, [], ◌∷◌, ◌++◌, Option, Some, None, cond, length, map, option_to_list, slice_get}
use Rattle.std.specs.List.{flat_map, fold, sum_by}
use Rattle.std.specs.Option.{option_map_or}
use Rattle.smr_clock.specs.declared.host.Host.{Ghosts}
use Rattle.trace_text.specs.declared.trace.ZoneHead.{ZoneHead}
use Rattle.uma_life.specs.Hook.{Hook}
use Rattle.replay_worker.specs.declared.worker.Held.{Held}
use Rattle.replay_worker.specs.declared.worker.Worker.{Worker}
use Rattle.replay_worker.specs.Items.{LiveItem}
use Rattle.replay_worker.specs.Live.{holding}
use Rattle.replay_rounds.specs.Kegs.{keg_place}
use Rattle.replay_rounds.specs.Lending.{live_times}

-- the zone at place `z` has the keg of the primary zone at place `p`
abbrev pub in_keg : List ZoneHead → ℕ → ℕ → Bool
in_keg heads p z = option_map_or (λ line. keg_place z line == p) (slice_get heads z) false

-- ---- lending

-- the zone of the item that is lent of a slot
abbrev pub mark_of : (ℕ → Bool) → Option Held → Option ℕ
mark_of of None = None
mark_of of (Some it) = cond (of it.zone) (Some it.zone) None

-- the item itself
abbrev pub lent_item : (ℕ → Bool) → Option Held → Option LiveItem
lent_item of None = None
lent_item of (Some it) = cond (of it.zone) (Some it.item) None

-- what stays in the slot
abbrev pub left_of : (ℕ → Bool) → Option Held → Option Held
left_of of None = None
left_of of (Some it) = cond (of it.zone) None (Some it)

-- the items that a worker's slots lend, in their order
abbrev pub lent_items : (ℕ → Bool) → List (Option Held) → List LiveItem
lent_items of slots = flat_map (λ slot. option_to_list (lent_item of slot)) slots

abbrev pub marks_of : (ℕ → Bool) → List (Option Held) → List (Option ℕ)
marks_of of slots = map (mark_of of) slots

abbrev pub left_in : (ℕ → Bool) → List (Option Held) → List (Option Held)
left_in of slots = map (left_of of) slots

module _ {H P : Type 0} {h : Ghosts H P} where
  -- the worker whose slots lent their items
  abbrev pub lender : (ℕ → Bool) → Worker H P h → Worker H P h
  lender of w = record w { slots = left_in of w.slots }

  -- the items that all workers lend, one worker after another
  abbrev pub all_lent : (ℕ → Bool) → List (Worker H P h) → List LiveItem
  all_lent of workers = flat_map (λ w. lent_items of w.slots) workers

  abbrev pub all_marks : (ℕ → Bool) → List (Worker H P h) → List (List (Option ℕ))
  all_marks of workers = map (λ w. marks_of of w.slots) workers

-- These slots lent their items behind others, and these are their marks.
pub record LendSlots (of : ℕ → Bool) (old : List (Option Held)) (before : List LiveItem) (new : List (Option Held)) (after : List LiveItem) (given : List (Option ℕ)) : Type 0 where
  pub marks : given ≡ marks_of of old
  pub lives : after ≡ before ++ lent_items of old
  pub left : new ≡ left_in of old

module _ {H P : Type 0} {h : Ghosts H P} where
  -- the same of a worker's slots
  pub record LendsItems (of : ℕ → Bool) (old : Worker H P h) (before : List LiveItem) (new : Worker H P h) (after : List LiveItem) (given : List (Option ℕ)) : Type 0 where
    pub marks : given ≡ marks_of of old.slots
    pub lives : after ≡ before ++ lent_items of old.slots
    pub left : new ≡ lender of old

  -- all workers lent these items, one worker after another, and these are the marks of each
  pub record AllLend (of : ℕ → Bool) (old new : List (Worker H P h)) (given : List (List (Option ℕ))) (items : List LiveItem) : Type 0 where
    pub marks : given ≡ all_marks of old
    pub lives : items ≡ all_lent of old
    pub left : new ≡ map (lender of) old

-- how often live items passed a hook
abbrev pub live_sum : Hook → List LiveItem → ℕ
live_sum hook lives = sum_by (live_times hook) lives

-- ---- filling again

-- what is in a slot once its mark was heeded: a marked one gets the first of the items
abbrev pub next_held : Option ℕ → List LiveItem → Option Held → Option Held
next_held None lives slot = slot
next_held (Some z) [] slot = slot
next_held (Some z) (item ∷ lives) slot = Some (holding z item)

-- the items that are left then
abbrev pub next_lives : Option ℕ → List LiveItem → List LiveItem
next_lives None lives = lives
next_lives (Some z) [] = []
next_lives (Some z) (item ∷ lives) = lives

-- A list of places, each of which is written by its mark and by what the marks before it left.
abbrev pub threaded : {M L X : Type 0} → (M → L → X → X) → (M → L → L) → List M → L → List X → List X
threaded step next [] left places = places
threaded step next (mark ∷ marks) left [] = []
threaded step next (mark ∷ marks) left (place ∷ places) = step mark left place ∷ threaded step next marks (next mark left) places

-- a mark for each slot, of which there are at most 65,536
pub record MarksEach (marks : List (Option ℕ)) (slots : List (Option Held)) : Type 0 where
  pub same : length marks ≡ length slots
  pub few : length marks ≤ 65536

-- the slots, with the items in the marked ones, in order
abbrev pub refilled : List (Option ℕ) → List LiveItem → List (Option Held) → List (Option Held)
refilled marks lives slots = threaded next_held next_lives marks lives slots

-- the items that are left then
abbrev pub over : List (Option ℕ) → List LiveItem → List LiveItem
over marks lives = fold (λ lives mark. next_lives mark lives) lives marks

module _ {H P : Type 0} {h : Ghosts H P} where
  abbrev pub refilled_worker : List (Option ℕ) → List LiveItem → Worker H P h → Worker H P h
  refilled_worker marks lives w = record w { slots = refilled marks lives w.slots }

  abbrev pub all_refilled : List (List (Option ℕ)) → List LiveItem → List (Worker H P h) → List (Worker H P h)
  all_refilled marks lives workers = threaded refilled_worker over marks lives workers

  -- the marks of a worker are as many as its slots, of which there are at most 65,536
  pub record MarksFit (marks : List (List (Option ℕ))) (workers : List (Worker H P h)) : Type 0 where
    pub same : map length marks ≡ map (λ w. length w.slots) workers
    pub few : (n : ℕ) (m : List (Option ℕ)) → slice_get marks n ≡ Some m → length m ≤ 65536
