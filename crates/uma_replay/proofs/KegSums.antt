-- The items of a keg, on plain lists and numbers: its zones have the numbers from 0 on in its list of counts.
use Rattle.std.proofs.Common.{◌≡◌, ℕ, zero, suc, ◌+◌, ◌-◌, ◌<◌, ◌≤◌, List, [], ◌∷◌, Bool, true, false, cond, length, take, get_or, Option, None, Some, refl, sym, ap, ◌∙◌, subst, arith, eq-eqb}
use Rattle.std.proofs.lemmas.Bool.{ne_eqb, false≢true, eqb-true}
use Rattle.std.proofs.lemmas.List.{get_or-take, length-take}
use Rattle.std.proofs.lemmas.List.Elements.{All-get_or}
use Rattle.std.proofs.lemmas.List.Sums.{sum_by-cons}
use Rattle.std.proofs.lemmas.Option.{none-some, same_Some, get_or_from_slice_get}
use Rattle.std.specs.Prelude.{min, All, ◌==◌, is_some, slice_get, slice_index_or, sum_by}
use Rattle.std.specs.Option.{option_map_or}
use Rattle.trace_text.specs.declared.trace.ZoneHead.{ZoneHead}
use Rattle.trace_text.specs.Valid.{sharer_count}
use Rattle.zone_stats.specs.declared.report.ZoneLine.{ZoneLine}
use Rattle.replay_rounds.specs.Kegs.{index_of, rights_after}
use Rattle.uma_replay.specs.Report.{items_of_keg}
use Rattle.uma_replay.proofs.Upto.{upto, upto-none, upto-more, upto-same, upto-zero}
use Rattle.uma_replay.proofs.ZoneFrees.{sum-upto}

-- the zone is a secondary one over the zone at place `p`
abbrev pub shares : ℕ → ZoneHead → Bool
shares p head = option_map_or (λ parent. parent == p) head.parent false

-- what a line has of the keg
abbrev pub items : ZoneLine → ℕ
items line = line.used + line.free

pub shares-cons : (p : ℕ) (head : ZoneHead) (heads : List ZoneHead) → sharer_count (head ∷ heads) p ≡ cond (shares p head) 1 0 + sharer_count heads p
shares-cons p head heads = sum_by-cons (λ (h : ZoneHead). cond (shares p h) 1 0) head heads

-- what the primary zone alone has of it; `z` is the place of the first of these lines
unfoldable pub own_items : ℕ → ℕ → List ZoneHead → List ZoneLine → ℕ
own_items p z (head ∷ heads) (line ∷ lines) = cond (is_some head.parent) 0 (cond (z == p) (items line) 0) + own_items p (z + 1) heads lines
own_items p z heads lines = 0

own-cons : (p z : ℕ) (head : ZoneHead) (heads : List ZoneHead) (line : ZoneLine) (lines : List ZoneLine)
    → own_items p z (head ∷ heads) (line ∷ lines) ≡ cond (is_some head.parent) 0 (cond (z == p) (items line) 0) + own_items p (z + 1) heads lines
unfolding own_items
own-cons p z head heads line lines = refl

own-nil : (p z : ℕ) → own_items p z [] [] ≡ 0
unfolding own_items
own-nil p z = refl

by_parent : (p z u : ℕ) (o : Option ℕ) → cond (option_map_or (λ parent. parent) o z == p) u 0 ≡ cond (option_map_or (λ parent. parent == p) o false) u 0 + cond (is_some o) 0 (cond (z == p) u 0)
by_parent p z u None = omega arith
by_parent p z u (Some q) = omega arith

items-cons : (p z : ℕ) (head : ZoneHead) (heads : List ZoneHead) (line : ZoneLine) (lines : List ZoneLine)
    → items_of_keg p z (head ∷ heads) (line ∷ lines) ≡ cond (shares p head) (items line) 0 + cond (is_some head.parent) 0 (cond (z == p) (items line) 0) + items_of_keg p (z + 1) heads lines
items-cons p z head heads line lines = ap (λ n. n + items_of_keg p (z + 1) heads lines) (by_parent p z (items line) head.parent)

-- the numbers of the zones that share the keg, from `c + 1` on
abbrev pub AreOuts : List ZoneHead → List ZoneLine → (ℕ → ℕ) → ℕ → ℕ → Type 0
AreOuts heads lines outs p c = (i : ℕ) (head : ZoneHead) (line : ZoneLine) → slice_get heads i ≡ Some head → slice_get lines i ≡ Some line → shares p head ≡ true
    → items line ≡ outs (c + sharer_count (take i heads) p + 1)

abbrev pub Step : List ZoneHead → List ZoneLine → (ℕ → ℕ) → ℕ → ℕ → ℕ → Type 0
Step heads lines outs p z c = items_of_keg p z heads lines ≡ own_items p z heads lines + upto outs (c + 1) (sharer_count heads p)

finish : (all shared own rest own_all own_rest next first more u : ℕ) → all ≡ shared + own + rest → own_all ≡ own + own_rest → rest ≡ own_rest + more → shared ≡ u → u ≡ first
    → {last : ℕ} → next ≡ first + last → last ≡ more → all ≡ own_all + next
finish all shared own rest own_all own_rest next first more u e1 e2 e3 e4 e5 e6 e7 = omega arith

finish_none : (all shared own rest own_all own_rest next more : ℕ) → all ≡ shared + own + rest → own_all ≡ own + own_rest → rest ≡ own_rest + more → shared ≡ 0 → next ≡ more → all ≡ own_all + next
finish_none all shared own rest own_all own_rest next more e1 e2 e3 e4 e5 = omega arith

five : (all own more i free first sum : ℕ) → all ≡ own + more → own ≡ i → i ≡ free + first → {up : ℕ} → sum ≡ up → up ≡ first + more → all ≡ free + sum
five all own more i free first sum e1 e2 e3 e4 e5 = omega arith

abbrev nothing : Bool → ℕ
nothing b = cond b 0 0

either : (b : Bool) → nothing b ≡ 0
either true = refl
either false = refl

one_more : (p z c : ℕ) (head : ZoneHead) (heads : List ZoneHead) (line : ZoneLine) (lines : List ZoneLine) (outs : ℕ → ℕ) (b : Bool) → shares p head ≡ b
    → AreOuts (head ∷ heads) (line ∷ lines) outs p c
    → ((d : ℕ) → AreOuts heads lines outs p d → Step heads lines outs p (z + 1) d) → Step (head ∷ heads) (line ∷ lines) outs p z c
one_more p z c head heads line lines outs true is each later =
    let unit : Bool → ℕ = λ b. cond b 1 0 in
    let u = items line in
    let count : ℕ = sharer_count heads p in
    let one : unit (shares p head) ≡ 1 = ap unit is in
    let counted : sharer_count (head ∷ heads) p ≡ suc count = omega (arith, shares-cons p head heads, one) in
    let here : u ≡ outs (c + 1) = each 0 head line refl refl is ∙ ap outs (let e : c + 0 + 1 ≡ c + 1 = omega arith in e) in
    let rest : Step heads lines outs p (z + 1) (c + 1) = later (c + 1) (λ i h l at at_line sh. each (suc i) h l at at_line sh ∙ ap outs
    (let e : c + sharer_count (head ∷ take i heads) p + 1 ≡ c + 1 + sharer_count (take i heads) p + 1 = omega (arith, shares-cons p head (take i heads), one) in e)) in
    let next : upto outs (c + 1) (sharer_count (head ∷ heads) p) ≡ outs (c + 1) + upto outs (suc (c + 1)) count = ap (upto outs (c + 1)) counted ∙ upto-more outs (c + 1) count in
    let after : upto outs (suc (c + 1)) count ≡ upto outs (c + 1 + 1) count = ap (λ n. upto outs n count) (let e : suc (c + 1) ≡ c + 1 + 1 = omega arith in e) in
    let shared : cond (shares p head) u 0 ≡ u = let f : Bool → ℕ = λ b. cond b u 0 in ap f is in
    finish _ _ _ _ _ _ _ _ _ _ (items-cons p z head heads line lines) (own-cons p z head heads line lines) rest shared here next after
one_more p z c head heads line lines outs false is each later =
    let unit : Bool → ℕ = λ b. cond b 1 0 in
    let u = items line in
    let count : ℕ = sharer_count heads p in
    let none : unit (shares p head) ≡ 0 = ap unit is in
    let counted : sharer_count (head ∷ heads) p ≡ count = omega (arith, shares-cons p head heads, none) in
    let rest : Step heads lines outs p (z + 1) c = later c (λ i h l at at_line sh. each (suc i) h l at at_line sh ∙ ap outs
    (let e : c + sharer_count (head ∷ take i heads) p + 1 ≡ c + sharer_count (take i heads) p + 1 = omega (arith, shares-cons p head (take i heads), none) in e)) in
    let next : upto outs (c + 1) (sharer_count (head ∷ heads) p) ≡ upto outs (c + 1) count = ap (upto outs (c + 1)) counted in
    let shared : cond (shares p head) u 0 ≡ 0 = let f : Bool → ℕ = λ b. cond b u 0 in ap f is in
    finish_none _ _ _ _ _ _ _ _ (items-cons p z head heads line lines) (own-cons p z head heads line lines) rest shared next

pub all_items : (heads : List ZoneHead) (lines : List ZoneLine) (outs : ℕ → ℕ) (p z c : ℕ) → length lines ≡ length heads → AreOuts heads lines outs p c → Step heads lines outs p z c
all_items [] [] outs p z c size each = omega (arith, own-nil p z, upto-none outs (c + 1))
all_items [] (line ∷ lines) outs p z c size each = absurd (omega arith)
all_items (head ∷ heads) [] outs p z c size each = absurd (omega arith)
all_items (head ∷ heads) (line ∷ lines) outs p z c size each =
    one_more p z c head heads line lines outs (shares p head) refl each (λ d later. all_items heads lines outs p (z + 1) d (omega arith) later)

-- the primary zone stands once
own_past : (heads : List ZoneHead) (lines : List ZoneLine) (p z : ℕ) → p < z → own_items p z heads lines ≡ 0
unfolding own_items
own_past [] lines p z past = refl
own_past (head ∷ heads) [] p z past = refl
own_past (head ∷ heads) (line ∷ lines) p z past =
    let apart : (z == p) ≡ false = ne_eqb z p (λ e. absurd (omega arith)) in
    let f : Bool → ℕ = λ b. cond (is_some head.parent) 0 (cond b (items line) 0) in
    let first : f (z == p) ≡ 0 = ap f apart ∙ either (is_some head.parent) in
    omega (arith, first, own_past heads lines p (z + 1) (omega arith))

own_at : (heads : List ZoneHead) (lines : List ZoneLine) (p z k : ℕ) (head : ZoneHead) (line : ZoneLine) → p ≡ z + k → head.parent ≡ None → slice_get heads k ≡ Some head → slice_get lines k ≡ Some line
    → own_items p z heads lines ≡ items line
unfolding own_items
own_at [] lines p z k head line is primary at at_line = absurd (none-some head at)
own_at (first ∷ heads) [] p z k head line is primary at at_line = absurd (none-some line at_line)
own_at (first ∷ heads) (own ∷ lines) p z zero head line is primary at at_line =
    let same : first ≡ head = same_Some first head at in
    let here : own ≡ line = same_Some own line at_line in
    let place : (z == p) ≡ true = eq-eqb z p (omega arith) in
    let none : is_some first.parent ≡ false = ap (λ (h : ZoneHead). is_some h.parent) same ∙ ap is_some primary in
    let f : Bool → ℕ = λ b. cond b 0 (cond (z == p) (items own) 0) in
    let g : Bool → ℕ = λ b. cond b (items own) 0 in
    let value : f (is_some first.parent) ≡ items line = ap f none ∙ (ap g place ∙ ap items here) in
    omega (arith, value, own_past heads lines p (z + 1) (omega arith))
own_at (first ∷ heads) (own ∷ lines) p z (suc k) head line is primary at at_line =
    let apart : (z == p) ≡ false = ne_eqb z p (λ e. absurd (omega arith)) in
    let f : Bool → ℕ = λ b. cond (is_some first.parent) 0 (cond b (items own) 0) in
    let none : f (z == p) ≡ 0 = ap f apart ∙ either (is_some first.parent) in
    omega (arith, none, own_at heads lines p (z + 1) k head line (omega arith) primary at at_line)

-- ---- the counts of the zones that a keg hasn't

upto-split : (f : ℕ → ℕ) (a m n : ℕ) → upto f a (m + n) ≡ upto f a m + upto f (a + m) n
upto-split f a zero n =
    let first : upto f a (0 + n) ≡ upto f (a + 0) n = ap (upto f a) (let e : 0 + n ≡ n = omega arith in e) ∙ ap (λ k. upto f k n) (let e : a ≡ a + 0 = omega arith in e) in
    omega (arith, first, upto-none f a)
upto-split f a (suc m) n =
    let first : upto f a (suc m + n) ≡ f a + upto f (suc a) (m + n) = ap (upto f a) (let e : suc m + n ≡ suc (m + n) = omega arith in e) ∙ upto-more f a (m + n) in
    let last : upto f (suc a + m) n ≡ upto f (a + suc m) n = ap (λ k. upto f k n) (let e : suc a + m ≡ a + suc m = omega arith in e) in
    omega (arith, first, upto-split f (suc a) m n, last, upto-more f a m)

zero_from : (f : ℕ → ℕ) (a n : ℕ) → ((i : ℕ) → a ≤ i → i < a + n → f i ≡ 0) → upto f a n ≡ 0
zero_from f a n none = let g : ℕ → ℕ = λ i. 0 in upto-same f g a n none ∙ upto-zero g a n (λ i. refl)

seven : List ℕ
seven = 7 ∷ 6 ∷ 5 ∷ 4 ∷ 3 ∷ 2 ∷ 1 ∷ []

right_at : (i : ℕ) → i < 7 → get_or seven i 0 ≡ 7 - i
unfolding seven
right_at zero below = refl
right_at (suc zero) below = omega arith
right_at (suc (suc zero)) below = omega arith
right_at (suc (suc (suc zero))) below = omega arith
right_at (suc (suc (suc (suc zero)))) below = omega arith
right_at (suc (suc (suc (suc (suc zero))))) below = omega arith
right_at (suc (suc (suc (suc (suc (suc zero)))))) below = omega arith
right_at (suc (suc (suc (suc (suc (suc (suc i))))))) below = absurd (omega arith)

-- a right that the keg keeps after `s` secondary zones is one of those above `s`
kept_right : (s k : ℕ) (P : ℕ → Type 0) → s < k → k < 8 → All P (rights_after s) → P k
unfolding seven
kept_right s k P above below all =
    let size : length (take (7 - s) seven) ≡ 7 - s = length-take (7 - s) seven ∙ (let e : min (7 - s) 7 ≡ 7 - s = omega arith in e) in
    let within : 7 - k < length (take (7 - s) seven) = omega (arith, size) in
    let at : get_or (take (7 - s) seven) (7 - k) 0 ≡ k =
    get_or-take (7 - s) seven (7 - k) 0 (omega arith) ∙ (right_at (7 - k) (omega arith) ∙ (let e : 7 - (7 - k) ≡ k = omega arith in e)) in
    subst P at (All-get_or P (take (7 - s) seven) (7 - k) 0 within all)

-- all counts of a keg with `s` secondary zones
outs_sum : (outs : List ℕ) (s : ℕ) → length outs ≡ 8 → s < 8 → All (λ k. slice_index_or outs k 0 ≡ 0) (rights_after s)
    → sum_by (λ out. out) outs ≡ upto (λ k. slice_index_or outs k 0) 0 (s + 1)
outs_sum outs s eight few absent =
    let f : ℕ → ℕ = λ k. slice_index_or outs k 0 in
    let P : ℕ → Type 0 = λ n. sum_by (λ out. out) outs ≡ upto f 0 n in
    let parts : (s + 1) + (7 - s) ≡ 8 = omega arith in
    let all : sum_by (λ out. out) outs ≡ upto f 0 ((s + 1) + (7 - s)) =
    subst P (eight ∙ sym parts) (sum-upto (λ out. out) outs f 0 (λ i out at. sym (ap f (let e : 0 + i ≡ i = omega arith in e) ∙ get_or_from_slice_get outs i out 0 at))) in
    let none : upto f (0 + (s + 1)) (7 - s) ≡ 0 = zero_from f (0 + (s + 1)) (7 - s) (λ k from to. kept_right s k (λ k. slice_index_or outs k 0 ≡ 0) (omega arith) (omega arith) absent) in
    omega (arith, all, upto-split f 0 (s + 1) (7 - s), none)

-- ---- a keg with its zones

-- each zone of the keg whose primary zone stands at place `p` has what is out in it, and the primary zone what is free besides
pub record HaveOuts (heads : List ZoneHead) (lines : List ZoneLine) (outs : List ℕ) (free p : ℕ) : Type 0 where
  pub own : (head : ZoneHead) (line : ZoneLine) → slice_get heads p ≡ Some head → slice_get lines p ≡ Some line → items line ≡ free + slice_index_or outs 0 0
  pub shared : (z : ℕ) (head : ZoneHead) (line : ZoneLine) → slice_get heads z ≡ Some head → slice_get lines z ≡ Some line → head.parent ≡ Some p → items line ≡ slice_index_or outs (index_of heads z head) 0

parent_of : (p : ℕ) (o : Option ℕ) → option_map_or (λ parent. parent == p) o false ≡ true → o ≡ Some p
parent_of p None is = absurd (false≢true is)
parent_of p (Some q) is = ap Some (eqb-true q p is)

pub keg_sum : (heads : List ZoneHead) (lines : List ZoneLine) (outs : List ℕ) (free p : ℕ) (primary : ZoneHead) (line : ZoneLine) → length lines ≡ length heads
    → slice_get heads p ≡ Some primary → primary.parent ≡ None → slice_get lines p ≡ Some line → length outs ≡ 8 → sharer_count heads p < 8
    → All (λ k. slice_index_or outs k 0 ≡ 0) (rights_after (sharer_count heads p)) → HaveOuts heads lines outs free p
    → items_of_keg p 0 heads lines ≡ free + sum_by (λ out. out) outs
keg_sum heads lines outs free p primary line size at is_primary at_line eight few absent have =
    let f : ℕ → ℕ = λ k. slice_index_or outs k 0 in
    let s = sharer_count heads p in
    let each : AreOuts heads lines f p 0 = λ z head l at_z at_l sh.
    let parent : head.parent ≡ Some p = parent_of p head.parent sh in
    let index : index_of heads z head ≡ 0 + sharer_count (take z heads) p + 1 =
    ap (λ o. option_map_or (λ parent. sharer_count (take z heads) parent + 1) o 0) parent ∙ (let e : sharer_count (take z heads) p + 1 ≡ 0 + sharer_count (take z heads) p + 1 = omega arith in e) in
    have.shared z head l at_z at_l parent ∙ ap f index in
    let all : items_of_keg p 0 heads lines ≡ own_items p 0 heads lines + upto f (0 + 1) s = all_items heads lines f p 0 0 size each in
    let own : own_items p 0 heads lines ≡ items line = own_at heads lines p 0 p primary line (omega arith) is_primary at at_line in
    let sum : sum_by (λ out. out) outs ≡ upto f 0 (s + 1) = outs_sum outs s eight few absent in
    let first : upto f 0 (s + 1) ≡ f 0 + upto f (0 + 1) s =
    ap (upto f 0) (let e : s + 1 ≡ suc s = omega arith in e) ∙ (upto-more f 0 s ∙ ap (λ k. f 0 + upto f k s) (let e : suc 0 ≡ 0 + 1 = omega arith in e)) in
    five _ _ _ _ _ _ _ all own (have.own primary line at at_line) sum first
