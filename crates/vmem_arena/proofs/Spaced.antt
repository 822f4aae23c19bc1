-- Ranges that don't meet, in order: where one stands, and how one comes, changes or goes.
use Rattle.std.proofs.Common.{◌≡◌, ℕ, ◌+◌, ◌^◌, ◌<◌, ◌≤◌, true, false, ◌==◌, nat_lt, List, [], ◌∷◌, ◌++◌, refl, ap, sym, subst, arith}
use Rattle.std.specs.List.{AllByRecursion}
use Rattle.std.proofs.lemmas.Bool.{lt-ltb, le-ltb, eq-eqb, ne_eqb}
use Rattle.std.proofs.lemmas.List.Elements.{recursion_from_All}
use Rattle.vmem_arena.specs.declared.free.Range.{Range}
use Rattle.vmem_arena.specs.Tags.{range_end}
use Rattle.vmem_arena.specs.Steps.{BeginFrom, BeginBelow, Spaced, EndLow}
use Rattle.vmem_arena.specs.ByBase.{put_in, written, without}

pub begin_front : (e : ℕ) (xs ys : List Range) → BeginFrom e (xs ++ ys) → BeginFrom e xs
begin_front e [] ys h = tt
begin_front e (x ∷ xs) ys h = (h.0, begin_front e xs ys h.1)

pub begin_back : (e : ℕ) (xs ys : List Range) → BeginFrom e (xs ++ ys) → BeginFrom e ys
begin_back e [] ys h = h
begin_back e (x ∷ xs) ys h = begin_back e xs ys h.1

pub begin_sooner : (d e : ℕ) (xs : List Range) → d ≤ e → BeginFrom e xs → BeginFrom d xs
begin_sooner d e [] l h = tt
begin_sooner d e (x ∷ xs) l h = let g = h.0 in (omega arith, begin_sooner d e xs l h.1)

pub spaced_back : (xs ys : List Range) → Spaced (xs ++ ys) → Spaced ys
spaced_back [] ys s = s
spaced_back (x ∷ xs) ys s = spaced_back xs ys s.2

pub spaced_front : (xs ys : List Range) → Spaced (xs ++ ys) → Spaced xs
spaced_front [] ys s = tt
spaced_front (x ∷ xs) ys s = (s.0, begin_front (range_end x) xs ys s.1, spaced_front xs ys s.2)

-- those before a range begin below it
pub begin_below : (xs : List Range) (r : Range) (ys : List Range) → Spaced (xs ++ r ∷ ys) → BeginBelow r.base xs
begin_below [] r ys s = tt
begin_below (x ∷ xs) r ys s =
    let some = s.0 in
    let behind = (begin_back (range_end x) xs (r ∷ ys) s.1).0 in
    (omega arith, begin_below xs r ys s.2)

pub below_further : (d e : ℕ) (xs : List Range) → d ≤ e → BeginBelow d xs → BeginBelow e xs
below_further d e [] l h = tt
below_further d e (x ∷ xs) l h = let g = h.0 in (omega arith, below_further d e xs l h.1)

pub below_push : (e : ℕ) (xs : List Range) (r : Range) → BeginBelow e xs → r.base < e → BeginBelow e (xs ++ r ∷ [])
below_push e [] r h l = (l, tt)
below_push e (x ∷ xs) r h l = (h.0, below_push e xs r h.1 l)

-- ---- the list after an edit
pub without_at : (k : ℕ) (xs : List Range) (r : Range) (ys : List Range) → BeginBelow k xs → r.base ≡ k → without k (xs ++ r ∷ ys) ≡ xs ++ ys
without_at k [] r ys h e =
    let t : (k == r.base) ≡ true = eq-eqb k r.base (sym e) in
    rw t refl
without_at k (x ∷ xs) r ys h e =
    let low = h.0 in
    let t : (k == x.base) ≡ false = ne_eqb k x.base (λ same. omega arith) in
    rw t (ap (λ l. x ∷ l) (without_at k xs r ys h.1 e))

pub written_at : (u : Range) (xs : List Range) (r : Range) (ys : List Range) → BeginBelow u.base xs → r.base ≡ u.base → written u (xs ++ r ∷ ys) ≡ xs ++ u ∷ ys
written_at u [] r ys h e =
    let t : (u.base == r.base) ≡ true = eq-eqb u.base r.base (sym e) in
    rw t refl
written_at u (x ∷ xs) r ys h e =
    let low = h.0 in
    let t : (u.base == x.base) ≡ false = ne_eqb u.base x.base (λ same. omega arith) in
    rw t (ap (λ l. x ∷ l) (written_at u xs r ys h.1 e))

put_first : (u : Range) (ys : List Range) → BeginFrom (u.base + 1) ys → put_in u ys ≡ u ∷ ys
put_first u [] h = refl
put_first u (y ∷ ys) h =
    let above = h.0 in
    let t : nat_lt u.base y.base ≡ true = lt-ltb u.base y.base (omega arith) in
    rw t refl

pub put_at : (u : Range) (xs ys : List Range) → BeginBelow u.base xs → BeginFrom (u.base + 1) ys → put_in u (xs ++ ys) ≡ xs ++ u ∷ ys
put_at u [] ys h g = put_first u ys g
put_at u (x ∷ xs) ys h g =
    let low = h.0 in
    let t : nat_lt u.base x.base ≡ false = le-ltb u.base x.base (omega arith) in
    rw t (ap (λ l. x ∷ l) (put_at u xs ys h.1 g))

-- ---- none at a base that lies in a gap
pub none_by_recursion : (k : ℕ) (xs ys : List Range) → BeginBelow k xs → BeginFrom (k + 1) ys → AllByRecursion (λ (r : Range). r.base ≡ k → ⊥) (xs ++ ys)
none_by_recursion k [] [] h g = tt
none_by_recursion k [] (y ∷ ys) h g = let l = g.0 in (λ e. omega arith, none_by_recursion k [] ys tt g.1)
none_by_recursion k (x ∷ xs) ys h g = let l = h.0 in (λ e. omega arith, none_by_recursion k xs ys h.1 g)

-- ---- two ways to part the same list
pub record Next (r : Range) (after : List Range) (next : Range) : Type 0 where
  pub rest : List Range
  pub is : after ≡ next ∷ rest

first_behind : (r : Range) (after b : List Range) (next : Range) (a : List Range) → Spaced (r ∷ after) → after ≡ b ++ next ∷ a → next.base ≡ range_end r → Next r after next
first_behind r after [] next a s e at = record { rest = a; is = e }
first_behind r after (z ∷ b) next a s e at =
    let h : Spaced (z ∷ (b ++ next ∷ a)) = subst Spaced e s.2 in
    let begins = subst (BeginFrom (range_end r)) e s.1 in
    let low = begins.0 in
    let some = h.0 in
    let behind = (begin_back (range_end z) b (next ∷ a) h.1).0 in
    absurd (omega arith)

-- the range that begins where another ends comes next after that
pub next_is : (pre : List Range) (r : Range) (after b : List Range) (next : Range) (a : List Range) → Spaced (pre ++ r ∷ after) → pre ++ r ∷ after ≡ b ++ next ∷ a → next.base ≡ range_end r → Next r after next
next_is [] r after [] next a s e at =
    let same : r ≡ next = cc e in
    let some = s.0 in
    let base : r.base ≡ next.base = ap (λ (x : Range). x.base) same in
    absurd (omega arith)
next_is [] r after (y ∷ b) next a s e at =
    let rest : after ≡ b ++ next ∷ a = cc e in
    first_behind r after b next a s rest at
next_is (x ∷ pre) r after [] next a s e at =
    let same : x ≡ next = cc e in
    let base : x.base ≡ next.base = ap (λ (y : Range). y.base) same in
    let some = s.0 in
    let behind = (begin_back (range_end x) pre (r ∷ after) s.1).0 in
    absurd (omega arith)
next_is (x ∷ pre) r after (y ∷ b) next a s e at =
    let rest : pre ++ r ∷ after ≡ b ++ next ∷ a = cc e in
    next_is pre r after b next a s.2 rest at

pub record Last (pre : List Range) (last : Range) : Type 0 where
  pub front : List Range
  pub is : pre ≡ front ++ last ∷ []

-- the last range that begins below another comes right before that
pub last_is : (pre : List Range) (r : Range) (after b : List Range) (last : Range) (a : List Range) → Spaced (pre ++ r ∷ after) → pre ++ r ∷ after ≡ b ++ last ∷ a → last.base < r.base → AllByRecursion (λ (s : Range). r.base ≤ s.base) a → Last pre last
last_is [] r after [] last a s e below later =
    let same : r ≡ last = cc e in
    let base : r.base ≡ last.base = ap (λ (x : Range). x.base) same in
    absurd (omega arith)
last_is [] r after (y ∷ b) last a s e below later =
    let rest : after ≡ b ++ last ∷ a = cc e in
    let begins = subst (BeginFrom (range_end r)) rest s.1 in
    let behind = (begin_back (range_end r) b (last ∷ a) begins).0 in
    absurd (omega arith)
last_is (x ∷ []) r after [] last a s e below later =
    let same : x ≡ last = cc e in
    record { front = []; is = ap (λ y. y ∷ []) same }
last_is (x ∷ z ∷ pre) r after [] last a s e below later =
    let rest : z ∷ (pre ++ r ∷ after) ≡ a = cc e in
    let h = subst (AllByRecursion (λ (s : Range). r.base ≤ s.base)) (sym rest) later in
    let low = h.0 in
    let some = s.2.0 in
    let behind = (begin_back (range_end z) pre (r ∷ after) s.2.1).0 in
    absurd (omega arith)
last_is (x ∷ pre) r after (y ∷ b) last a s e below later =
    let first : x ≡ y = cc e in
    let rest : pre ++ r ∷ after ≡ b ++ last ∷ a = cc e in
    let h = last_is pre r after b last a s.2 rest below later in
    record { front = x ∷ h.front; is = ap (λ l. x ∷ l) h.is }

-- where none begins below a range, it is the first
pub none_before : (pre : List Range) (r : Range) (after : List Range) → Spaced (pre ++ r ∷ after) → AllByRecursion (λ (s : Range). r.base ≤ s.base) (pre ++ r ∷ after) → pre ≡ []
none_before [] r after s h = refl
none_before (x ∷ pre) r after s h =
    let low = h.0 in
    let some = s.0 in
    let behind = (begin_back (range_end x) pre (r ∷ after) s.1).0 in
    absurd (omega arith)

pub each_front : {X : Type 0} (P : X → Type 0) (xs ys : List X) → AllByRecursion P (xs ++ ys) → AllByRecursion P xs
each_front P [] ys h = tt
each_front P (x ∷ xs) ys h = (h.0, each_front P xs ys h.1)

pub each_back : {X : Type 0} (P : X → Type 0) (xs ys : List X) → AllByRecursion P (xs ++ ys) → AllByRecursion P ys
each_back P [] ys h = h
each_back P (x ∷ xs) ys h = each_back P xs ys h.1

pub each_append : {X : Type 0} (P : X → Type 0) (xs ys : List X) → AllByRecursion P xs → AllByRecursion P ys → AllByRecursion P (xs ++ ys)
each_append P [] ys h g = g
each_append P (x ∷ xs) ys h g = (h.0, each_append P xs ys h.1 g)

pub each_at : {X : Type 0} (P : X → Type 0) (xs : List X) (x : X) (ys : List X) → AllByRecursion P (xs ++ x ∷ ys) → P x
each_at P xs x ys h = (each_back P xs (x ∷ ys) h).0

-- where each ends at 2^63 at the latest, one of them does
pub ends_low : (ranges before : List Range) (r : Range) (after : List Range) → ranges ≡ before ++ r ∷ after → EndLow ranges → range_end r ≤ 2 ^ 63
ends_low ranges before r after e h = each_at (λ (x : Range). range_end x ≤ 2 ^ 63) before r after (subst (AllByRecursion (λ (x : Range). range_end x ≤ 2 ^ 63)) e (recursion_from_All (λ (x : Range). range_end x ≤ 2 ^ 63) ranges h))
