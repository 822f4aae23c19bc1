-- A map's entries as ranges in order of base.
use Rattle.std.proofs.Common.{◌≡◌, ℕ, ◌<◌, ◌≤◌, Bool, true, false, cond, ◌==◌, nat_lt, List, [], ◌∷◌, ◌++◌, filter, All, Option, Some, None, refl, ap, sym, subst, ◌∙◌, arith}
use Rattle.std.specs.List.{AllByRecursion}
use Rattle.std.specs.List.Sorted.{IsStrictlySortedBy}
use Rattle.std.specs.Map.{lookup, remove_entry, set_value, keys_of}
use Rattle.std.specs.BTreeMap.{insert_entry, is_at}
use Rattle.std.specs.Ordering.{nat_cmp, is_eq, match_ordering}
use Rattle.std.specs.declared.cmp.Ordering.TheVariants.{Less, Equal, Greater}
use Rattle.std.proofs.lemmas.Bool.{eqb-true, ne_eqb}
use Rattle.std.proofs.lemmas.Bool.Decides.{nat_tests}
use Rattle.std.proofs.lemmas.List.Elements.{All-nil, All-cons, All-head, All-tail}
use Rattle.std.proofs.lemmas.Map.Keys.{sorted_head, sorted_tail}
use Rattle.vmem_arena.specs.declared.free.Range.{Range}
use Rattle.vmem_arena.specs.declared.free.Tag.{Tag}
use Rattle.vmem_arena.specs.Tag.{range_of, ranges_of}
use Rattle.vmem_arena.specs.ByBase.{IsAt, NoneAt, IsLastBelow, IsFirstFrom, put_in, written, without}

ranges_of-cond : (b : Bool) (xs ys : List (ℕ × Tag)) → ranges_of (cond b xs ys) ≡ cond b (ranges_of xs) (ranges_of ys)
ranges_of-cond true xs ys = refl
ranges_of-cond false xs ys = refl

is_eq_is : (a b : ℕ) → is_eq (nat_cmp a b) ≡ (a == b)
is_eq_is a b = grind (arith, nat_tests)

-- ---- what is at a base
at_cases : (b : Bool) (k : ℕ) (v : Tag) (e : ℕ × Tag) (es : List (ℕ × Tag)) (o : Option Tag) → (b ≡ true → k ≡ e.0) → (o ≡ Some v → IsAt (ranges_of es) k (range_of (k, v))) → cond b (Some e.1) o ≡ Some v → IsAt (ranges_of (e ∷ es)) k (range_of (k, v))
at_cases true k v e es o same later is =
    let key : k ≡ e.0 = same refl in
    let value : e.1 ≡ v = cc is in
    let both : range_of e ≡ range_of (k, v) = λ i. range_of (sym key i, value i) in
    record { before = []; after = ranges_of es; is = ap (λ r. r ∷ ranges_of es) both; begins = refl }
at_cases false k v e es o same later is =
    let h = later is in
    record { before = range_of e ∷ h.before; after = h.after; is = ap (λ l. range_of e ∷ l) h.is; begins = h.begins }

pub at_from : (k : ℕ) (v : Tag) (es : List (ℕ × Tag)) → lookup (is_at (nat_cmp k)) es ≡ Some v → IsAt (ranges_of es) k (range_of (k, v))
at_from k v [] is = cc is
at_from k v (e ∷ es) is =
    let same : is_eq (nat_cmp k e.0) ≡ true → k ≡ e.0 = λ h. eqb-true k e.0 (sym (is_eq_is k e.0) ∙ h) in
    at_cases (is_eq (nat_cmp k e.0)) k v e es (lookup (is_at (nat_cmp k)) es) same (at_from k v es) is

none_cases : (b : Bool) (k : ℕ) (e : ℕ × Tag) (es : List (ℕ × Tag)) (o : Option Tag) → (b ≡ false → e.0 ≡ k → ⊥) → (o ≡ None → NoneAt (ranges_of es) k) → cond b (Some e.1) o ≡ None → NoneAt (ranges_of (e ∷ es)) k
none_cases true k e es o other later is = cc is
none_cases false k e es o other later is = All-cons (λ (r : Range). r.base ≡ k → ⊥) (range_of e) (ranges_of es) (other refl) (later is)

pub none_at_from : (k : ℕ) (es : List (ℕ × Tag)) → lookup (is_at (nat_cmp k)) es ≡ None → NoneAt (ranges_of es) k
none_at_from k [] is = All-nil (λ (r : Range). r.base ≡ k → ⊥)
none_at_from k (e ∷ es) is =
    let other : is_eq (nat_cmp k e.0) ≡ false → e.0 ≡ k → ⊥ = λ h same. grind (arith, nat_tests) in
    none_cases (is_eq (nat_cmp k e.0)) k e es (lookup (is_at (nat_cmp k)) es) other (none_at_from k es) is

-- ---- a range comes, changes or goes
put_case : {X : Type 0} (p q : Bool) (x y z : X) → q ≡ false → match_ordering (cond p Less (cond q Equal Greater)) x y z ≡ cond p x z
put_case true q x y z h = refl
put_case false true x y z h = cc h
put_case false false x y z h = refl

pub ranges_of-insert : (k : ℕ) (v : Tag) (es : List (ℕ × Tag)) → NoneAt (ranges_of es) k → ranges_of (insert_entry nat_cmp es k v) ≡ put_in (range_of (k, v)) (ranges_of es)
ranges_of-insert k v [] none = refl
ranges_of-insert k v (e ∷ es) none =
    let apart = All-head (λ (r : Range). r.base ≡ k → ⊥) (range_of e) (ranges_of es) none in
    let q : (k == e.0) ≡ false = ne_eqb k e.0 (λ same. apart (sym same)) in
    let later = ranges_of-insert k v es (All-tail (λ (r : Range). r.base ≡ k → ⊥) (range_of e) (ranges_of es) none) in
    ap ranges_of (put_case (nat_lt k e.0) (k == e.0) ((k, v) ∷ e ∷ es) ((e.0, v) ∷ es) (e ∷ insert_entry nat_cmp es k v) q)
    ∙ ranges_of-cond (nat_lt k e.0) ((k, v) ∷ e ∷ es) (e ∷ insert_entry nat_cmp es k v)
    ∙ ap (λ l. cond (nat_lt k e.0) (range_of (k, v) ∷ range_of e ∷ ranges_of es) (range_of e ∷ l)) later

pub ranges_of-remove : (k : ℕ) (es : List (ℕ × Tag)) → ranges_of (remove_entry (is_at (nat_cmp k)) es) ≡ without k (ranges_of es)
ranges_of-remove k [] = refl
ranges_of-remove k (e ∷ es) =
    ap (λ b. ranges_of (cond b es (e ∷ remove_entry (is_at (nat_cmp k)) es))) (is_eq_is k e.0)
    ∙ ranges_of-cond (k == e.0) es (e ∷ remove_entry (is_at (nat_cmp k)) es)
    ∙ ap (λ l. cond (k == e.0) (ranges_of es) (range_of e ∷ l)) (ranges_of-remove k es)

write_case : (b : Bool) (k : ℕ) (w : Tag) (e : ℕ × Tag) (es : List (ℕ × Tag)) (xs : List (ℕ × Tag)) (l : List Range) → (b ≡ true → k ≡ e.0) → ranges_of xs ≡ l → ranges_of (cond b ((e.0, w) ∷ es) (e ∷ xs)) ≡ cond b (range_of (k, w) ∷ ranges_of es) (range_of e ∷ l)
write_case true k w e es xs l same h = ap (λ n. range_of (n, w) ∷ ranges_of es) (sym (same refl))
write_case false k w e es xs l same h = ap (λ m. range_of e ∷ m) h

pub ranges_of-set_value : (k : ℕ) (w : Tag) (es : List (ℕ × Tag)) → ranges_of (set_value (is_at (nat_cmp k)) es w) ≡ written (range_of (k, w)) (ranges_of es)
ranges_of-set_value k w [] = refl
ranges_of-set_value k w (e ∷ es) =
    ap (λ b. ranges_of (cond b ((e.0, w) ∷ es) (e ∷ set_value (is_at (nat_cmp k)) es w))) (is_eq_is k e.0)
    ∙ write_case (k == e.0) k w e es (set_value (is_at (nat_cmp k)) es w) (written (range_of (k, w)) (ranges_of es)) (eqb-true k e.0) (ranges_of-set_value k w es)

nothing_set : (b : Bool) (w : Tag) (e : ℕ × Tag) (es xs : List (ℕ × Tag)) (o : Option Tag) → (o ≡ None → xs ≡ es) → cond b (Some e.1) o ≡ None → cond b ((e.0, w) ∷ es) (e ∷ xs) ≡ e ∷ es
nothing_set true w e es xs o later is = cc is
nothing_set false w e es xs o later is = ap (λ l. e ∷ l) (later is)

-- nothing is written where no entry is at the base
pub set_value_none : (k : ℕ) (w : Tag) (es : List (ℕ × Tag)) → lookup (is_at (nat_cmp k)) es ≡ None → set_value (is_at (nat_cmp k)) es w ≡ es
set_value_none k w [] is = refl
set_value_none k w (e ∷ es) is = nothing_set (is_eq (nat_cmp k e.0)) w e es (set_value (is_at (nat_cmp k)) es w) (lookup (is_at (nat_cmp k)) es) (set_value_none k w es) is

-- ---- parts of the ranges, by their bases
pub ranges_of-filter : (p : ℕ → Bool) (es : List (ℕ × Tag)) → ranges_of (filter (λ e. p e.0) es) ≡ filter (λ r. p r.base) (ranges_of es)
ranges_of-filter p [] = refl
ranges_of-filter p (e ∷ es) =
    ranges_of-cond (p e.0) (e ∷ filter (λ e. p e.0) es) (filter (λ e. p e.0) es)
    ∙ ap (λ l. cond (p e.0) (range_of e ∷ l) l) (ranges_of-filter p es)

-- the bases rise
abbrev pub AllAbove : ℕ → List Range → Type 0
AllAbove base [] = Unit {0}
AllAbove base (r ∷ rs) = (base < r.base) × AllAbove base rs

abbrev pub Rise : List Range → Type 0
Rise [] = Unit {0}
Rise (r ∷ rs) = AllAbove r.base rs × Rise rs

above_from : (k : ℕ) (es : List (ℕ × Tag)) → AllByRecursion (λ y. nat_cmp k y ≡ Less) (keys_of es) → AllAbove k (ranges_of es)
above_from k [] h = tt
above_from k (e ∷ es) h = (grind (arith, nat_tests, h.0), above_from k es h.1)

pub rise_from : (es : List (ℕ × Tag)) → IsStrictlySortedBy nat_cmp (keys_of es) → Rise (ranges_of es)
rise_from [] s = tt
rise_from (e ∷ es) s = (above_from e.0 es (sorted_head nat_cmp e.0 (keys_of es) s), rise_from es (sorted_tail nat_cmp e.0 (keys_of es) s))

first_cases : (p : ℕ → Bool) (base : ℕ) (b : Bool) (x : Range) (rs t : List Range) (r : Range) → p x.base ≡ b → ((q : ℕ) → p q ≡ true → base ≤ q) → ((q : ℕ) → p q ≡ false → q < base) → (filter (λ r. p r.base) rs ≡ r ∷ t → IsFirstFrom rs base r) → cond b (x ∷ filter (λ r. p r.base) rs) (filter (λ r. p r.base) rs) ≡ r ∷ t → IsFirstFrom (x ∷ rs) base r
first_cases p base true x rs t r e low high later is =
    let same : x ≡ r = cc is in
    record { before = []; after = rs; is = ap (λ y. y ∷ rs) same; from = subst (λ (y : Range). base ≤ y.base) same (low x.base e); earlier = All-nil (λ (s : Range). s.base < base) }
first_cases p base false x rs t r e low high later is =
    let h = later is in
    record { before = x ∷ h.before; after = h.after; is = ap (λ l. x ∷ l) h.is; from = h.from; earlier = All-cons (λ (s : Range). s.base < base) x h.before (high x.base e) h.earlier }

-- the first of those that pass a test for bases from this one on
pub first_from_in : (p : ℕ → Bool) (base : ℕ) → ((q : ℕ) → p q ≡ true → base ≤ q) → ((q : ℕ) → p q ≡ false → q < base) → (rs t : List Range) (r : Range) → filter (λ r. p r.base) rs ≡ r ∷ t → IsFirstFrom rs base r
first_from_in p base low high [] t r is = cc is
first_from_in p base low high (x ∷ rs) t r is = first_cases p base (p x.base) x rs t r refl low high (first_from_in p base low high rs t r) is

nothing_cases : (P : Range → Type 0) (b : Bool) (x : Range) (rs l : List Range) → (b ≡ false → P x) → (l ≡ [] → All P rs) → cond b (x ∷ l) l ≡ [] → All P (x ∷ rs)
nothing_cases P true x rs l high later is = cc is
nothing_cases P false x rs l high later is = All-cons P x rs (high refl) (later is)

-- where none passes
pub none_passes : (p : ℕ → Bool) (P : Range → Type 0) → ((r : Range) → p r.base ≡ false → P r) → (rs : List Range) → filter (λ r. p r.base) rs ≡ [] → All P rs
none_passes p P high [] is = All-nil P
none_passes p P high (x ∷ rs) is = nothing_cases P (p x.base) x rs (filter (λ r. p r.base) rs) (high x) (none_passes p P high rs) is

above_not : (p : ℕ → Bool) (base k : ℕ) → base ≤ k → ((q : ℕ) → p q ≡ true → q < base) → (rs : List Range) → AllAbove k rs → filter (λ r. p r.base) rs ≡ []
above_not p base k up low [] a = refl
above_not p base k up low (x ∷ rs) a =
    let above = a.0 in
    let high : p x.base ≡ false = none_below (p x.base) (low x.base) (omega arith) in
    rw high (above_not p base k up low rs a.1)
  where
    none_below : {n m : ℕ} (b : Bool) → (b ≡ true → n < m) → m ≤ n → b ≡ false
    none_below true h g = absurd (let l = h refl in omega arith)
    none_below false h g = refl

last_end : (t : List Range) (r : Range) → [] ≡ t ++ r ∷ [] → ⊥
last_end [] r is = cc is
last_end (y ∷ t) r is = cc is

last_cases : (p : ℕ → Bool) (base : ℕ) (b : Bool) (x : Range) (rs t : List Range) (r : Range) → p x.base ≡ b → ((q : ℕ) → p q ≡ true → q < base) → ((q : ℕ) → p q ≡ false → base ≤ q) → AllAbove x.base rs → ((u : List Range) → filter (λ r. p r.base) rs ≡ u ++ r ∷ [] → IsLastBelow rs base r) → cond b (x ∷ filter (λ r. p r.base) rs) (filter (λ r. p r.base) rs) ≡ t ++ r ∷ [] → IsLastBelow (x ∷ rs) base r
last_cases p base true x rs [] r e low high above later is =
    let same : x ≡ r = cc is in
    let none : filter (λ r. p r.base) rs ≡ [] = cc is in
    record { before = []; after = rs; is = ap (λ y. y ∷ rs) same; below = subst (λ (y : Range). y.base < base) same (low x.base e); later = none_passes p (λ s. base ≤ s.base) (λ s h. high s.base h) rs none }
last_cases p base true x rs (y ∷ t) r e low high above later is =
    let rest : filter (λ r. p r.base) rs ≡ t ++ r ∷ [] = cc is in
    let h = later t rest in
    record { before = x ∷ h.before; after = h.after; is = ap (λ l. x ∷ l) h.is; below = h.below; later = h.later }
last_cases p base false x rs t r e low high above later is =
    let none = above_not p base x.base (high x.base e) low rs above in
    absurd (last_end t r (sym none ∙ is))

-- the last of those that pass a test for bases below this one
pub last_below_in : (p : ℕ → Bool) (base : ℕ) → ((q : ℕ) → p q ≡ true → q < base) → ((q : ℕ) → p q ≡ false → base ≤ q) → (rs : List Range) → Rise rs → (t : List Range) (r : Range) → filter (λ r. p r.base) rs ≡ t ++ r ∷ [] → IsLastBelow rs base r
last_below_in p base low high [] s t r is = absurd (last_end t r is)
last_below_in p base low high (x ∷ rs) s t r is = last_cases p base (p x.base) x rs t r refl low high s.0 (λ u. last_below_in p base low high rs s.1 u r) is
