-- Lists of fits in order.
use Rattle.std.proofs.Common.{◌≡◌, ℕ, ◌+◌, ◌<◌, ◌≤◌, max, Bool, true, false, cond, List, [], ◌∷◌, ◌++◌, length, find, nat_le, Option, Some, None, refl, ap, ◌∙◌, arith, length-append, append_assoc}
use Rattle.std.specs.Option.{option_or}
use Rattle.std.proofs.lemmas.List.Folds.{find-append}
use Rattle.std.proofs.lemmas.Bool.Decides.{nat_tests}
use Rattle.vmem_arena.specs.declared.free.Fit.{Fit}
use Rattle.vmem_arena.specs.Fits.{is_before, passing, Ascend, HasOneMore, HasNone, Removal, largest_size}
use Rattle.vmem_arena.proofs.FitOrder.{not_behind, before_further, before_later, before_earlier, size_le, is_fit, same_not_before, same_not_behind, same_size, same_base}

pub passing-append : {X : Type 0} (test : X → Bool) (xs ys : List X) → passing test (xs ++ ys) ≡ passing test xs + passing test ys
passing-append test [] ys = omega arith
passing-append test (x ∷ xs) ys = omega (arith, passing-append test xs ys)

abbrev pub one_if : Bool → ℕ
one_if b = cond b 1 0

zero_cond : (b : Bool) (n : ℕ) → cond b 1 0 + n ≡ 0 → b ≡ false
zero_cond true n h = absurd (omega arith)
zero_cond false n h = refl

zero_rest : (b : Bool) (n : ℕ) → cond b 1 0 + n ≡ 0 → n ≡ 0
zero_rest true n h = absurd (omega arith)
zero_rest false n h = omega arith

cond_le : (b d : Bool) → (b ≡ true → d ≡ true) → cond b 1 0 ≤ cond d 1 0
cond_le true true h = omega arith
cond_le true false h = let e : false ≡ true = h refl in cc e
cond_le false d h = omega arith

-- a test that implies another passes no more often
pub passing-le : {X : Type 0} (test other : X → Bool) → ((x : X) → test x ≡ true → other x ≡ true) → (xs : List X) → passing test xs ≤ passing other xs
passing-le test other h [] = omega arith
passing-le test other h (x ∷ xs) = omega (arith, passing-le test other h xs, cond_le (test x) (other x) (h x))

pub none_passing : {X : Type 0} (test other : X → Bool) → ((x : X) → test x ≡ true → other x ≡ true) → (xs : List X) → passing other xs ≡ 0 → passing test xs ≡ 0
none_passing test other h xs z = omega (arith, passing-le test other h xs)

true_or_false : (b : Bool) → (b ≡ true → ⊥) → b ≡ false
true_or_false true h = absurd (h refl)
true_or_false false h = refl

-- from a premise on what doesn't pass
unless : (b d : Bool) → (d ≡ false → b ≡ false) → b ≡ true → d ≡ true
unless b true h e = refl
unless b false h e = let g : b ≡ false = h refl in cc (e, g)

pub order_front : (xs ys : List Fit) → Ascend (xs ++ ys) → Ascend xs
order_front [] ys s = tt
order_front (x ∷ xs) ys s =
    let e = passing-append (λ y. is_before y x) xs ys in
    (omega (arith, e, s.0), order_front xs ys s.1)

pub order_back : (xs ys : List Fit) → Ascend (xs ++ ys) → Ascend ys
order_back [] ys s = s
order_back (x ∷ xs) ys s = order_back xs ys s.1

-- a list in order around one of its fits
pub record Around (l : List Fit) (f : Fit) (r : List Fit) : Type 0 where
  pub left : Ascend l
  pub right : Ascend r
  pub low : passing (λ y. is_before f y) l ≡ 0
  pub high : passing (λ y. is_before y f) r ≡ 0

low_of : (l : List Fit) (f : Fit) (r : List Fit) → Ascend (l ++ f ∷ r) → passing (λ y. is_before f y) l ≡ 0
low_of [] f r s = refl
low_of (x ∷ l) f r s =
    let e = passing-append (λ y. is_before y x) l (f ∷ r) in
    let z : cond (is_before f x) 1 0 + passing (λ y. is_before y x) r ≡ 0 = omega (arith, e, s.0) in
    let none : is_before f x ≡ false = zero_cond (is_before f x) _ z in
    rw none (omega (arith, low_of l f r s.1))

pub around : (l : List Fit) (f : Fit) (r : List Fit) → Ascend (l ++ f ∷ r) → Around l f r
around l f r s =
    let back = order_back l (f ∷ r) s in
    record { left = order_front l (f ∷ r) s; right = back.1; low = low_of l f r s; high = back.0 }

head_first : (x : Fit) (l : List Fit) (f : Fit) (r : List Fit) → passing (λ y. is_before y x) l ≡ 0 → is_before f x ≡ false → passing (λ y. is_before y f) r ≡ 0 → passing (λ y. is_before y x) (l ++ f ∷ r) ≡ 0
head_first x l f r s n h =
    let e = passing-append (λ y. is_before y x) l (f ∷ r) in
    let z : passing (λ y. is_before y x) r ≡ 0 = none_passing (λ y. is_before y x) (λ y. is_before y f) (λ y p. before_further x f y n p) r h in
    let c : one_if (is_before f x) ≡ 0 = rw n refl in
    omega (arith, e, s, z, c)

pub in_order : (l : List Fit) (f : Fit) (r : List Fit) → Around l f r → Ascend (l ++ f ∷ r)
in_order [] f r a = (a.high, a.right)
in_order (x ∷ l) f r a =
    let n : is_before f x ≡ false = zero_cond (is_before f x) _ a.low in
    (head_first x l f r a.left.0 n a.high, in_order l f r (record { left = a.left.1; right = a.right; low = zero_rest (is_before f x) _ a.low; high = a.high }))

-- ---- one more fit
pub more_left : (l m : List Fit) (f : Fit) (r : List Fit) (k : Fit) → is_before k f ≡ true → HasOneMore l k m → Ascend m → Around l f r → Around m f r
more_left l m f r k b h s a =
    let n : is_before f k ≡ false = not_behind k f b in
    let c : one_if (is_before f k) ≡ 0 = rw n refl in
    record { left = s; right = a.right; low = omega (arith, h (λ y. is_before f y), c, a.low); high = a.high }

pub more_right : (l : List Fit) (f : Fit) (r m : List Fit) (k : Fit) → is_before k f ≡ false → HasOneMore r k m → Ascend m → Around l f r → Around l f m
more_right l f r m k n h s a =
    let c : one_if (is_before k f) ≡ 0 = rw n refl in
    record { left = a.left; right = s; low = a.low; high = omega (arith, h (λ y. is_before y f), c, a.high) }

pub one_more_left : (l m : List Fit) (f : Fit) (r : List Fit) (k : Fit) → HasOneMore l k m → HasOneMore (l ++ f ∷ r) k (m ++ f ∷ r)
one_more_left l m f r k h test = omega (arith, passing-append test l (f ∷ r), passing-append test m (f ∷ r), h test)

pub one_more_right : (l : List Fit) (f : Fit) (r m : List Fit) (k : Fit) → HasOneMore r k m → HasOneMore (l ++ f ∷ r) k (l ++ f ∷ m)
one_more_right l f r m k h test = omega (arith, passing-append test l (f ∷ r), passing-append test l (f ∷ m), h test)

-- ---- one fit less
pub less_left : (l m : List Fit) (f : Fit) (r : List Fit) (k : Fit) → HasOneMore m k l → Ascend m → Around l f r → Around m f r
less_left l m f r k h s a =
    record { left = s; right = a.right; low = omega (arith, h (λ y. is_before f y), a.low); high = a.high }

pub less_right : (l : List Fit) (f : Fit) (r m : List Fit) (k : Fit) → HasOneMore m k r → Ascend m → Around l f r → Around l f m
less_right l f r m k h s a =
    record { left = a.left; right = s; low = a.low; high = omega (arith, h (λ y. is_before y f), a.high) }

pub absent_left : (l : List Fit) (f : Fit) (r : List Fit) (k : Fit) → is_before k f ≡ true → HasNone l k → Around l f r → HasNone (l ++ f ∷ r) k
absent_left l f r k b h a =
    let e = passing-append (is_fit k) l (f ∷ r) in
    let z : passing (is_fit k) r ≡ 0 = none_passing (is_fit k) (λ y. is_before y f) (λ y. unless (is_fit k y) (is_before y f) (λ n. true_or_false (is_fit k y) (λ s. let p = same_not_before k y s in let q = before_later k f y b n in cc (p, q)))) r a.high in
    let c : is_fit k f ≡ false = true_or_false (is_fit k f) (λ s. let p = same_not_before k f s in cc (p, b)) in
    let d : one_if (is_fit k f) ≡ 0 = rw c refl in
    omega (arith, e, h, z, d)

pub absent_right : (l : List Fit) (f : Fit) (r : List Fit) (k : Fit) → is_before f k ≡ true → HasNone r k → Around l f r → HasNone (l ++ f ∷ r) k
absent_right l f r k b h a =
    let e = passing-append (is_fit k) l (f ∷ r) in
    let z : passing (is_fit k) l ≡ 0 = none_passing (is_fit k) (λ y. is_before f y) (λ y. unless (is_fit k y) (is_before f y) (λ n. true_or_false (is_fit k y) (λ s. let p = same_not_behind k y s in let q = before_earlier k f y b n in cc (p, q)))) l a.low in
    let c : is_fit k f ≡ false = true_or_false (is_fit k f) (λ s. let p = same_not_behind k f s in cc (p, b)) in
    let d : one_if (is_fit k f) ≡ 0 = rw c refl in
    omega (arith, e, h, z, d)

-- ---- the first that is as large
find_none : (test : Fit → Bool) (xs ys : List Fit) → passing test xs ≡ 0 → find test (xs ++ ys) ≡ find test ys
find_none test [] ys z = refl
find_none test (x ∷ xs) ys z =
    let n : test x ≡ false = zero_cond (test x) _ z in
    rw n (find_none test xs ys (zero_rest (test x) _ z))

pub find_behind : (n : ℕ) (l : List Fit) (f : Fit) (r : List Fit) → f.size < n → Around l f r → find (λ y. nat_le n y.size) (l ++ f ∷ r) ≡ find (λ y. nat_le n y.size) r
find_behind n l f r s a =
    let z : passing (λ y. nat_le n y.size) l ≡ 0 = none_passing (λ y. nat_le n y.size) (λ y. is_before f y) (λ y. unless (nat_le n y.size) (is_before f y) (λ b. let h : y.size ≤ f.size = size_le f y b in grind (arith, nat_tests))) l a.low in
    let t : nat_le n f.size ≡ false = grind (arith, nat_tests) in
    find_none (λ y. nat_le n y.size) l (f ∷ r) z ∙ rw t refl

-- ---- the largest
largest_le : (f : Fit) (l : List Fit) → passing (λ y. is_before f y) l ≡ 0 → largest_size l ≤ f.size
largest_le f [] z = omega arith
largest_le f (x ∷ l) z =
    let h : x.size ≤ f.size = size_le f x (zero_cond (is_before f x) _ z) in
    omega (arith, h, largest_le f l (zero_rest (is_before f x) _ z))

largest-append : (xs ys : List Fit) → largest_size (xs ++ ys) ≡ max (largest_size xs) (largest_size ys)
largest-append [] ys = omega arith
largest-append (x ∷ xs) ys = omega (arith, largest-append xs ys)

pub largest_behind : (l : List Fit) (f : Fit) (r : List Fit) → Around l f r → largest_size (l ++ f ∷ r) ≡ max f.size (largest_size r)
largest_behind l f r a = omega (arith, largest-append l (f ∷ r), largest_le f l a.low)

pub sides_shorter : (l : List Fit) (f : Fit) (r : List Fit) → (length l < length (l ++ f ∷ r)) × (length r < length (l ++ f ∷ r))
sides_shorter l f r = omega (arith, length-append l (f ∷ r))

or_else_first : {X : Type 0} (o : Option X) (x : X) (p : Option X) → option_or (option_or o (Some x)) p ≡ option_or o (Some x)
or_else_first None x p = refl
or_else_first (Some y) x p = refl

pub or_none : {X : Type 0} (o : Option X) → option_or o None ≡ o
or_none None = refl
or_none (Some x) = refl

pub find_here : (n : ℕ) (l : List Fit) (f : Fit) (r : List Fit) (other : Option Fit) → n ≤ f.size → option_or (find (λ y. nat_le n y.size) (l ++ f ∷ r)) other ≡ option_or (find (λ y. nat_le n y.size) l) (Some f)
find_here n l f r other s =
    let t : nat_le n f.size ≡ true = grind (arith, nat_tests) in
    let e : find (λ y. nat_le n y.size) (l ++ f ∷ r) ≡ option_or (find (λ y. nat_le n y.size) l) (Some f) = find-append (λ y. nat_le n y.size) l (f ∷ r) ∙ rw t refl in
    rw e (or_else_first (find (λ y. nat_le n y.size) l) f other)

-- ---- all but one
pub without_it : (l : List Fit) (f : Fit) (r : List Fit) → Around l f r → Ascend (l ++ r)
without_it [] f r a = a.right
without_it (x ∷ l) f r a =
    let n : is_before f x ≡ false = zero_cond (is_before f x) _ a.low in
    let z : passing (λ y. is_before y x) r ≡ 0 = none_passing (λ y. is_before y x) (λ y. is_before y f) (λ y p. before_further x f y n p) r a.high in
    (omega (arith, passing-append (λ y. is_before y x) l r, a.left.0, z), without_it l f r (record { left = a.left.1; right = a.right; low = zero_rest (is_before f x) _ a.low; high = a.high }))

pub one_more_here : (l : List Fit) (f : Fit) (r : List Fit) (k : Fit) → f ≡ k → HasOneMore (l ++ r) k (l ++ f ∷ r)
one_more_here l f r k e test =
    let h : test f ≡ test k = ap test e in
    rw (← h) (omega (arith, passing-append test l (f ∷ r), passing-append test l r))

pub same_fit : (k f : Fit) → is_before k f ≡ false → is_before f k ≡ false → f ≡ k
same_fit k f h p =
    let s = same_size k f h p in
    let b = same_base k f h p in
    λ i. record { size = s i; base = b i }

-- where one is taken out on one side, if it is there
pub removal_left : (b : Bool) (l m : List Fit) (f : Fit) (r : List Fit) (k : Fit) → is_before k f ≡ true → Removal b l k m → Around l f r → Removal b (l ++ f ∷ r) k (m ++ f ∷ r)
removal_left true l m f r k e h a = one_more_left m l f r k h
removal_left false l m f r k e h a = (absent_left l f r k e h.0 a, ap (λ x. x ++ f ∷ r) h.1)

pub order_left : (b : Bool) (l m : List Fit) (f : Fit) (r : List Fit) (k : Fit) → Removal b l k m → Ascend m → Around l f r → Ascend (m ++ f ∷ r)
order_left true l m f r k h s a = in_order m f r (less_left l m f r k h s a)
order_left false l m f r k h s a = rw h.1 (in_order l f r a)

pub removal_right : (b : Bool) (l : List Fit) (f : Fit) (r m : List Fit) (k : Fit) → is_before f k ≡ true → Removal b r k m → Around l f r → Removal b (l ++ f ∷ r) k (l ++ f ∷ m)
removal_right true l f r m k e h a = one_more_right l f m r k h
removal_right false l f r m k e h a = (absent_right l f r k e h.0 a, ap (λ x. l ++ f ∷ x) h.1)

pub order_right : (b : Bool) (l : List Fit) (f : Fit) (r m : List Fit) (k : Fit) → Removal b r k m → Ascend m → Around l f r → Ascend (l ++ f ∷ m)
order_right true l f r m k h s a = in_order l f m (less_right l f r m k h s a)
order_right false l f r m k h s a = rw h.1 (in_order l f r a)

-- ---- what a turn leaves below the top
pub turned_behind_order : (x : List Fit) (j : Fit) (y : List Fit) (k : Fit) (z b : List Fit) → b ≡ x ++ j ∷ y → Ascend (b ++ k ∷ z) → Ascend (y ++ k ∷ z)
turned_behind_order x j y k z b e s =
    let h = rw (e, append_assoc x (j ∷ y) (k ∷ z)) at s in
    (order_back x (j ∷ (y ++ k ∷ z)) h).1

pub turned_before_order : (x : List Fit) (j : Fit) (y : List Fit) (k : Fit) (z b : List Fit) → b ≡ y ++ k ∷ z → Ascend (x ++ j ∷ b) → Ascend (x ++ j ∷ y)
turned_before_order x j y k z b e s =
    let h = rw (e, ← append_assoc x (j ∷ y) (k ∷ z)) at s in
    order_front (x ++ j ∷ y) (k ∷ z) h
