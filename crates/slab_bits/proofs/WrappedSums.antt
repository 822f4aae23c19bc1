-- A sum over lanes, whose sums wrap at 2^64.
use Rattle.std.proofs.Common.{◌≡◌, ℕ, zero, suc, ◌+◌, ◌-◌, ◌*◌, ◌%◌, ◌^◌, ◌<◌, ◌≤◌, List, [], ◌∷◌, map, length, take, drop, get_or, sum_by, arith, refl, sym, ap, ◌∙◌}
use Rattle.std.specs.Int.RustNames.{count_ones}
use Rattle.std.specs.Simd.{first_chunks}
use lib.Lanes.{sum_l, zip2, fold_l}
use mir.Syntax.{w64}
use mir.Val.{Fits}
use Rattle.std.proofs.lemmas.List.{drop-drop, get_or_default, map-id, length-map, length-take-le, length-drop}
use Rattle.std.proofs.lemmas.List.Sums.{sum_by-cons, sum_by-take-drop, sum_by-le}
use Rattle.std.proofs.lemmas.Nat.{ones-le}
use Rattle.std.proofs.lemmas.Simd.{length-zip2}

abbrev pub wrapped : ℕ → ℕ → ℕ
wrapped x y = (x + y) % 2 ^ 64

pub sum-zip2_wrapped : (xs ys : List ℕ) → length xs ≡ length ys → sum_l (zip2 wrapped xs ys) % 2 ^ 64 ≡ (sum_l xs + sum_l ys) % 2 ^ 64
sum-zip2_wrapped [] [] same = refl
sum-zip2_wrapped [] (y ∷ ys) same = absurd (omega arith)
sum-zip2_wrapped (x ∷ xs) [] same = absurd (omega arith)
sum-zip2_wrapped (x ∷ xs) (y ∷ ys) same =
    let rest = sum-zip2_wrapped xs ys (omega arith) in
    omega arith

pub fold_wrapped : (a : ℕ) (xs : List ℕ) → a < 2 ^ 64 → fold_l wrapped a xs ≡ (a + sum_l xs) % 2 ^ 64
fold_wrapped a [] fit = omega arith
fold_wrapped a (x ∷ xs) fit =
    let rest = fold_wrapped ((a + x) % 2 ^ 64) xs (omega arith) in
    omega arith

pub sum_l-map : (f : ℕ → ℕ) (xs : List ℕ) → sum_l (map f xs) ≡ sum_by f xs
sum_l-map f [] = refl
sum_l-map f (x ∷ xs) = ap (λ n. f x + n) (sum_l-map f xs) ∙ sym (sum_by-cons f x xs)

-- chunk i of n elements
pub chunk_at : (n k i : ℕ) (xs : List ℕ) (d : List ℕ) → i < k → get_or (first_chunks n k xs) i d ≡ take n (drop (n * i) xs)
chunk_at n zero i xs d within = absurd (omega arith)
chunk_at n (suc k) zero xs d within = let none : n * 0 ≡ 0 = omega arith in rw none refl
chunk_at n (suc k) (suc i) xs d within = chunk_at n k i (drop n xs) d (omega arith) ∙ ap (take n) (drop-drop (n * i) n xs) ∙ (let more : n + n * i ≡ n * suc i = omega arith in ap (λ (j : ℕ). take n (drop j xs)) more)

-- what is left of the sum after a chunk
pub sum_by-chunk : (f : ℕ → ℕ) (i : ℕ) (xs : List ℕ) → sum_by f (drop (8 * i) xs) ≡ sum_by f (take 8 (drop (8 * i) xs)) + sum_by f (drop (8 * (i + 1)) xs)
sum_by-chunk f i xs =
    sym (sum_by-take-drop f (drop (8 * i) xs) 8)
    ∙ ap (λ (ys : List ℕ). sum_by f (take 8 (drop (8 * i) xs)) + sum_by f ys) (drop-drop 8 (8 * i) xs ∙ (let more : 8 * i + 8 ≡ 8 * (i + 1) = omega arith in ap (λ (j : ℕ). drop j xs) more))

-- fewer than 2^58 words have fewer than 2^64 bits
pub sum_of-ones : (xs : List ℕ) → ((k : ℕ) → Fits w64 (get_or xs k 0)) → sum_by count_ones xs ≤ length xs * 64
sum_of-ones xs fit = sum_by-le count_ones 64 xs (λ k d within. ones-le 64 (get_or xs k d) (rw (get_or_default xs k d 0 within) (fit k).fits))

-- one chunk is added to the lanes
pub lanes_step : (counts words : List ℕ) (i total : ℕ) → length counts ≡ 8 → 8 * (i + 1) ≤ length words
    → (sum_l counts + sum_by count_ones (drop (8 * i) words)) % 2 ^ 64 ≡ total
    → (sum_l (zip2 wrapped counts (map (λ (x : ℕ). x) (map count_ones (take 8 (drop (8 * i) words))))) + sum_by count_ones (drop (8 * (i + 1)) words)) % 2 ^ 64 ≡ total
lanes_step counts words i total lanes room counted =
    let chunk = take 8 (drop (8 * i) words) in
    let left : length (drop (8 * i) words) ≡ length words - 8 * i = length-drop (8 * i) words in
    let long : length chunk ≡ 8 = length-take-le 8 (drop (8 * i) words) (omega arith) in
    let ones_long : length (map count_ones chunk) ≡ 8 = length-map chunk count_ones ∙ long in
    let step = sum_by-chunk count_ones i words in
    let added = sum-zip2_wrapped counts (map count_ones chunk) (omega arith) in
    let ones = sum_l-map count_ones chunk in
    rw (map-id (map count_ones chunk)) (omega arith)

pub lanes_long : (counts words : List ℕ) (i : ℕ) → length counts ≡ 8 → 8 * (i + 1) ≤ length words
    → length (zip2 wrapped counts (map (λ (x : ℕ). x) (map count_ones (take 8 (drop (8 * i) words))))) ≡ 8
lanes_long counts words i lanes room =
    let chunk = take 8 (drop (8 * i) words) in
    let left : length (drop (8 * i) words) ≡ length words - 8 * i = length-drop (8 * i) words in
    let long : length chunk ≡ 8 = length-take-le 8 (drop (8 * i) words) (omega arith) in
    let ones_long : length (map count_ones chunk) ≡ 8 = length-map chunk count_ones ∙ long in
    rw (map-id (map count_ones chunk)) (length-zip2 wrapped counts (map count_ones chunk) (omega arith) ∙ lanes)
