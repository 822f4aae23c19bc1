-- What is counted over all items that the workers lend, zone by zone.
use Rattle.std.proofs.Common.{◌≡◌, ℕ, zero, suc, ◌+◌, ◌*◌, ◌<◌, ◌≤◌, ◌%◌, ◌^◌, Bool, true, false, cond, List, [], ◌∷◌, ◌++◌, Option, Some, None, length, refl, sym, ap, ◌∙◌, arith}
use Rattle.std.specs.Prelude.{◌==◌, option_to_list, slice_get}
use Rattle.std.specs.List.{All, cons_option, sum_by}
use Rattle.std.proofs.lemmas.List.{length-append, length-map}
use Rattle.std.proofs.lemmas.List.Elements.{All-nil, All-cons, All-append}
use Rattle.std.proofs.lemmas.List.Sums.{sum_by-cons, sum_by-append}
use Rattle.smr_clock.specs.declared.host.Host.{Ghosts}
use Rattle.uma_life.specs.Hook.{Hook, Ctor, Dtor}
use Rattle.uma_life.specs.Live.{live_zone}
use Rattle.uma_life.specs.Sum.{times_of}
use Rattle.uma_life.specs.Trail.{ShowsSame}
use Rattle.uma_keg.specs.Lent.{Seen, seen_of, all_seen, lent_of}
use Rattle.uma_bucket.proofs.Tallied.{both_show}
use Rattle.trace_text.specs.declared.trace.ZoneHead.{ZoneHead}
use Rattle.replay_worker.specs.declared.worker.Held.{Held}
use Rattle.replay_worker.specs.declared.worker.Worker.{Worker}
use Rattle.replay_worker.specs.declared.count_hooks.Counted.{Counted}
use Rattle.replay_worker.specs.Items.{counted_life, LiveItem}
use Rattle.replay_worker.specs.Live.{is_of, live_count, lives_of}
use Rattle.replay_worker.specs.Slots.{slot_at}
use Rattle.replay_worker.specs.Together.{all_live}
use Rattle.replay_rounds.specs.Kegs.{keg_place}
use Rattle.replay_rounds.specs.Lending.{live_times, slot_times, lent_times}
use Rattle.replay_rounds.specs.Slots.{all_lent, in_keg, lent_items, live_sum}
use Rattle.replay_rounds.proofs.ZoneNumbers.{over_zones, zones_add, zones_same, zones_none, zones_one}

-- each item in these slots is so
abbrev pub EachHeld : (Held → Type 0) → List (Option Held) → Type 0
EachHeld P slots = (slot : ℕ) (it : Held) → slot_at slots slot ≡ Some it → P it

module _ {H Part : Type 0} {h : Ghosts H Part} where
  -- each item in the workers' slots is so
  abbrev pub EachOf : (Held → Type 0) → List (Worker H Part h) → Type 0
  EachOf P workers = (n : ℕ) (w : Worker H Part h) → slice_get workers n ≡ Some w → EachHeld P w.slots

-- ---- the sum over one slot more

zero_plus : (n : ℕ) → n ≡ 0 + n
zero_plus n = omega arith

list_sum : {X : Type 0} (f : X → ℕ) (b : Bool) (x : X) (xs : List X) → sum_by f (option_to_list (cond b (Some x) None) ++ xs) ≡ cond b (f x) 0 + sum_by f xs
list_sum f true x xs = sum_by-cons f x xs
list_sum f false x xs = zero_plus (sum_by f xs)

cons_sum : {X : Type 0} (f : X → ℕ) (b : Bool) (x : X) (xs : List X) → sum_by f (cons_option (cond b (Some x) None) xs) ≡ cond b (f x) 0 + sum_by f xs
cons_sum f true x xs = sum_by-cons f x xs
cons_sum f false x xs = zero_plus (sum_by f xs)

-- ---- hooks

slots_times : (hook : Hook) (p : ℕ) (heads : List ZoneHead) (slots : List (Option Held)) → live_sum hook (lent_items (in_keg heads p) slots) ≡ over_zones p 0 heads (λ z. live_sum hook (lives_of z slots))
slots_times hook p heads [] = sym (zones_none p 0 heads)
slots_times hook p heads (None ∷ slots) = slots_times hook p heads slots
slots_times hook p heads (Some it ∷ slots) =
    let f = live_times hook in
    let t = live_times hook it.item in
    list_sum f (in_keg heads p it.zone) it.item (lent_items (in_keg heads p) slots)
    ∙ (λ i. sym (zones_one p it.zone t heads) i + slots_times hook p heads slots i)
    ∙ sym (zones_add p 0 heads (λ z. cond (it.zone == z) t 0) (λ z. live_sum hook (lives_of z slots)))
    ∙ zones_same p 0 heads (λ z. cond (it.zone == z) t 0 + live_sum hook (lives_of z slots)) (λ z. live_sum hook (lives_of z (Some it ∷ slots))) (λ z. sym (cons_sum f (it.zone == z) it.item (lives_of z slots)))

module _ {H Part : Type 0} {h : Ghosts H Part} where
  lent_over : (hook : Hook) (p z : ℕ) (lines : List ZoneHead) (workers : List (Worker H Part h)) → lent_times hook p z lines workers ≡ over_zones p z lines (λ z. sum_by (slot_times hook z) workers)
  lent_over hook p z [] workers = refl
  lent_over hook p z (line ∷ lines) workers = ap (λ n. cond (keg_place z line == p) (sum_by (slot_times hook z) workers) 0 + n) (lent_over hook p (z + 1) lines workers)

  all_times : (hook : Hook) (p : ℕ) (heads : List ZoneHead) (workers : List (Worker H Part h)) → live_sum hook (all_lent (in_keg heads p) workers) ≡ over_zones p 0 heads (λ z. sum_by (slot_times hook z) workers)
  all_times hook p heads [] = sym (zones_none p 0 heads)
  all_times hook p heads (w ∷ workers) =
      sum_by-append (live_times hook) (lent_items (in_keg heads p) w.slots) (all_lent (in_keg heads p) workers)
      ∙ (λ i. slots_times hook p heads w.slots i + all_times hook p heads workers i)
      ∙ sym (zones_add p 0 heads (λ z. slot_times hook z w) (λ z. sum_by (slot_times hook z) workers))
      ∙ zones_same p 0 heads (λ z. slot_times hook z w + sum_by (slot_times hook z) workers) (λ z. sum_by (slot_times hook z) (w ∷ workers)) (λ z. sym (sum_by-cons (slot_times hook z) w workers))

  -- what the lent items passed is what is said zone by zone
  pub lent_is : (hook : Hook) (p : ℕ) (heads : List ZoneHead) (workers : List (Worker H Part h)) → live_sum hook (all_lent (in_keg heads p) workers) ≡ lent_times hook p 0 heads workers
  lent_is hook p heads workers = all_times hook p heads workers ∙ sym (lent_over hook p 0 heads workers)

-- ---- the items of one zone

-- an item is lent in the zone with this number in its keg where it is of the zone at this place
abbrev pub CountsAs : (ℕ → Bool) → ℕ → ℕ → Held → Type 0
CountsAs of z index it = cond (of it.zone) (live_zone it.item == index) false ≡ (it.zone == z)

twice : (a b : Bool) → ◌≡◌ {A = ℕ} (cond a (cond b 1 0) 0) (cond (cond a b false) 1 0)
twice true b = refl
twice false b = refl

slots_count : (of : ℕ → Bool) (z index : ℕ) (slots : List (Option Held)) → EachHeld (CountsAs of z index) slots → lent_of (lent_items of slots) index ≡ live_count z slots
slots_count of z index [] each = refl
slots_count of z index (None ∷ slots) each = slots_count of z index slots (λ slot it at. each (suc slot) it at) ∙ zero_plus (live_count z slots) ∙ sym (sum_by-cons (λ (s : Option Held). cond (is_of z s) 1 0) None slots)
slots_count of z index (Some it ∷ slots) each =
    let f : LiveItem → ℕ = λ item. cond (live_zone item == index) 1 0 in
    list_sum f (of it.zone) it.item (lent_items of slots)
    ∙ (λ i. (twice (of it.zone) (live_zone it.item == index) ∙ ap (λ b. cond b 1 0) (each zero it refl)) i + slots_count of z index slots (λ slot it at. each (suc slot) it at) i)
    ∙ sym (sum_by-cons (λ (s : Option Held). cond (is_of z s) 1 0) (Some it) slots)

module _ {H Part : Type 0} {h : Ghosts H Part} where
  -- of the zone at place `z` so many items are lent as the slots hold
  pub all_count : (of : ℕ → Bool) (z index : ℕ) (workers : List (Worker H Part h)) → EachOf (CountsAs of z index) workers → lent_of (all_lent of workers) index ≡ all_live z workers
  all_count of z index [] each = refl
  all_count of z index (w ∷ workers) each =
      sum_by-append (λ (item : LiveItem). cond (live_zone item == index) 1 0) (lent_items of w.slots) (all_lent of workers)
      ∙ (λ i. slots_count of z index w.slots (each zero w refl) i + all_count of z index workers (λ n v at. each (suc n) v at) i)
      ∙ sym (sum_by-cons (λ (v : Worker H Part h). live_count z v.slots) w workers)

-- ---- all lent items are so

-- an item that is lent is so
abbrev pub LentIs : (LiveItem → Type 0) → (ℕ → Bool) → Held → Type 0
LentIs P of it = of it.zone ≡ true → P it.item

one_all : (P : LiveItem → Type 0) (b : Bool) (item : LiveItem) (lives : List LiveItem) → (b ≡ true → P item) → All P lives → All P (option_to_list (cond b (Some item) None) ++ lives)
one_all P true item lives is all = All-cons P item lives (is refl) all
one_all P false item lives is all = all

slots_all : (P : LiveItem → Type 0) (of : ℕ → Bool) (slots : List (Option Held)) → EachHeld (LentIs P of) slots → All P (lent_items of slots)
slots_all P of [] each = All-nil P
slots_all P of (None ∷ slots) each = slots_all P of slots (λ slot it at. each (suc slot) it at)
slots_all P of (Some it ∷ slots) each = one_all P (of it.zone) it.item (lent_items of slots) (each zero it refl) (slots_all P of slots (λ slot it at. each (suc slot) it at))

module _ {H Part : Type 0} {h : Ghosts H Part} where
  pub all_are : (P : LiveItem → Type 0) (of : ℕ → Bool) (workers : List (Worker H Part h)) → EachOf (LentIs P of) workers → All P (all_lent of workers)
  all_are P of [] each = All-nil P
  all_are P of (w ∷ workers) each = All-append P (lent_items of w.slots) (all_lent of workers) (slots_all P of w.slots (each zero w refl)) (all_are P of workers (λ n v at. each (suc n) v at))

-- ---- the lent items are few

one_more : (b : Bool) (item : LiveItem) (lives : List LiveItem) (n : ℕ) → length lives ≤ n → length (option_to_list (cond b (Some item) None) ++ lives) ≤ suc n
one_more true item lives n few = omega arith
one_more false item lives n few = omega arith

less : (m n : ℕ) → m ≤ n → m ≤ suc n
less m n few = omega arith

slots_few : (of : ℕ → Bool) (slots : List (Option Held)) → length (lent_items of slots) ≤ length slots
slots_few of [] = omega arith
slots_few of (None ∷ slots) = less (length (lent_items of slots)) (length slots) (slots_few of slots)
slots_few of (Some it ∷ slots) = one_more (of it.zone) it.item (lent_items of slots) (length slots) (slots_few of slots)

both_few : (m a b n s : ℕ) → m ≡ a + b → a ≤ s → s ≤ 65536 → b ≤ n * 65536 → m ≤ suc n * 65536
both_few m a b n s is first few rest = omega arith

module _ {H Part : Type 0} {h : Ghosts H Part} where
  pub all_few : (of : ℕ → Bool) (workers : List (Worker H Part h)) → ((n : ℕ) (w : Worker H Part h) → slice_get workers n ≡ Some w → length w.slots ≤ 65536) → length (all_lent of workers) ≤ length workers * 65536
  all_few of [] few = omega arith
  all_few of (w ∷ workers) few =
      both_few (length (all_lent of (w ∷ workers))) (length (lent_items of w.slots)) (length (all_lent of workers)) (length workers) (length w.slots)
      (length-append (lent_items of w.slots) (all_lent of workers)) (slots_few of w.slots) (few zero w refl) (all_few of workers (λ n v at. few (suc n) v at))

pub sixteen : (m n : ℕ) → m ≤ n * 65536 → n ≤ 16 → m ≤ 2 ^ 20
sixteen m n few workers = omega arith

-- ---- what the census gives back counts the same

seen_times : Hook → Seen Counted → ℕ
seen_times hook seen = times_of (counted_life seen.body).tally hook

seen_sum : (hook : Hook) (lives : List LiveItem) → live_sum hook lives ≡ sum_by (seen_times hook) (all_seen lives)
unfolding seen_times
seen_sum hook [] = refl
seen_sum hook (item ∷ lives) = sum_by-cons (live_times hook) item lives ∙ ap (λ n. live_times hook item + n) (seen_sum hook lives) ∙ sym (sum_by-cons (seen_times hook) (seen_of item) (all_seen lives))

pub same_sum : (hook : Hook) (back lives : List LiveItem) → all_seen back ≡ all_seen lives → live_sum hook back ≡ live_sum hook lives
same_sum hook back lives same = seen_sum hook back ∙ ap (sum_by (seen_times hook)) same ∙ sym (seen_sum hook lives)

pub same_length : (back lives : List LiveItem) → all_seen back ≡ all_seen lives → length back ≡ length lives
same_length back lives same = sym (length-map back seen_of) ∙ ap length same ∙ length-map lives seen_of

-- ---- hooks come in pairs, but for the live items

four : (a b c d : ℕ) → (a + b) + (c + d) ≡ (a + c) + (b + d)
four a b c d = omega arith

item_pairs : (index : ℕ) (item : LiveItem) → index < 8 → ShowsSame (live_times (Ctor index) item) (live_times (Dtor index) item + cond (live_zone item == index) 1 0)
item_pairs index item below = item.at.trail.builds index below

pub lives_pair : (index : ℕ) (lives : List LiveItem) → index < 8 → ShowsSame (live_sum (Ctor index) lives) (live_sum (Dtor index) lives + lent_of lives index)
lives_pair index [] below = refl
lives_pair index (item ∷ lives) below =
    let u : LiveItem → ℕ = λ i. cond (live_zone i == index) 1 0 in
    let c = live_times (Ctor index) in
    let d = live_times (Dtor index) in
    let all = both_show (c item) (d item + u item) (live_sum (Ctor index) lives) (live_sum (Dtor index) lives + lent_of lives index) (item_pairs index item below) (lives_pair index lives below) in
    let right : (d item + u item) + (live_sum (Dtor index) lives + lent_of lives index) ≡ live_sum (Dtor index) (item ∷ lives) + lent_of (item ∷ lives) index =
    four (d item) (u item) (live_sum (Dtor index) lives) (lent_of lives index) ∙ (λ i. sym (sum_by-cons d item lives) i + sym (sum_by-cons u item lives) i) in
    ap (λ n. n % 2 ^ 64) (sum_by-cons c item lives) ∙ all ∙ ap (λ n. n % 2 ^ 64) right

pub pairs_with : (ctors dtors all_ctors all_dtors own_ctors own_dtors live : ℕ) → all_ctors ≡ ctors + own_ctors → all_dtors ≡ dtors + own_dtors → ShowsSame ctors dtors → ShowsSame own_ctors (own_dtors + live) → ShowsSame all_ctors (all_dtors + live)
pairs_with ctors dtors all_ctors all_dtors own_ctors own_dtors live is_ctors is_dtors home own =
    let all = both_show ctors dtors own_ctors (own_dtors + live) home own in
    let same : dtors + (own_dtors + live) ≡ all_dtors + live = omega arith in
    ap (λ n. n % 2 ^ 64) is_ctors ∙ all ∙ ap (λ n. n % 2 ^ 64) same
