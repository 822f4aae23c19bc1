-- Sums and bounds of plain numbers, so that no proof over a worker searches through it.
use Rattle.std.proofs.Common.{◌≡◌, ℕ, ◌+◌, ◌-◌, ◌*◌, ◌<◌, ◌≤◌, ◌^◌, arith}

pub still_some : {a b : ℕ} → b ≡ a → 0 < b → 0 < a
still_some e some = omega arith

-- what was found a window or more above what was loaded
pub far_above : {start window seen loaded found after : ℕ} → start ≤ seen → seen ≤ loaded → loaded ≤ found → window ≤ found - loaded → found ≤ after → start + window ≤ after
far_above a b c d e = omega arith

pub some_as : {a b least : ℕ} → a ≡ b → least ≤ b → least ≤ a
some_as same some = omega arith

pub below_next : {slot : ℕ} → slot ≤ 65535 → slot < 65536
below_next within = omega arith

pub few_as : {a b most : ℕ} → a ≡ b → b ≤ most → a ≤ most
few_as same few = omega arith

pub below_as : {i n m : ℕ} → i < n → m ≡ n → i < m
below_as below same = omega arith

-- ---- a worker's counts amid its turn

pub room_for : {count lines : ℕ} → lines < 2 ^ 32 → count ≤ lines → count < 2 ^ 63
room_for few most = omega arith

pub rooms_for : {a b wanted more lines : ℕ} → lines < 2 ^ 32 → a + b ≤ wanted + more → wanted ≤ lines → more ≤ lines → (a < 2 ^ 62) × (b < 2 ^ 62)
rooms_for few adds most many = (omega arith, omega arith)

pub few_so_far : (before : ℕ) {i count own taken size : ℕ} → i < count → count ≡ own → taken ≡ i → size ≡ taken + before → before + own < 2 ^ 32 → size < 2 ^ 32
few_so_far before below all e f few = omega arith

pub no_more : (n : ℕ) → n + 0 ≤ n
no_more n = omega arith

pub up_to_none : (n : ℕ) → n ≤ n + 0
up_to_none n = omega arith

pub none_few : (most n : ℕ) → n ≤ n + most * 0
none_few most n = omega arith

pub one_more_within : {i n : ℕ} → i < n → i + 1 ≤ n
one_more_within below = omega arith

pub some_more : (old i : ℕ) {now next : ℕ} → old + i ≤ now → now + 1 ≤ next → old + (i + 1) ≤ next
some_more old i e f = omega arith

pub few_more : (old i : ℕ) {now next : ℕ} → now ≤ old + 100000000 * i → next ≤ now + 100000000 → next ≤ old + 100000000 * (i + 1)
few_more old i e f = omega arith

pub one_more : (old i : ℕ) {now next : ℕ} → now ≤ old + i → next ≤ now + 1 → next ≤ old + (i + 1)
one_more old i e f = omega arith

pub asks_left : (old : ℕ) {i count now : ℕ} → i < count → old + 100000000 * count < 2 ^ 64 → now ≤ old + 100000000 * i → now + 100000000 < 2 ^ 64
asks_left old below few most = omega arith

pub gave_up_left : (old : ℕ) {i count now : ℕ} → i < count → old + count < 2 ^ 64 → now ≤ old + i → now + 1 < 2 ^ 64
gave_up_left old below few most = omega arith

-- ---- items, frees and allocs of one zone

pub balance_got : (live allocs : ℕ) {live' more frees frees' allocs' : ℕ} → live' ≡ live + more → more ≡ 1 → frees' ≡ frees → allocs' ≡ allocs + 1 → live' + frees' + allocs ≡ live + frees + allocs'
balance_got live allocs e f g h = omega arith

pub balance_gave : (frees : ℕ) {live live' now gone frees' allocs allocs' : ℕ} → now ≡ live' → live' + gone ≡ live → gone ≡ 1 → frees' ≡ frees + 1 → allocs' ≡ allocs → now + frees' + allocs ≡ live + frees + allocs'
balance_gave frees d e f g h = omega arith

pub balance_still : {live live' frees frees' allocs allocs' : ℕ} → live' ≡ live → frees' ≡ frees → allocs' ≡ allocs → live' + frees' + allocs ≡ live + frees + allocs'
balance_still e f g = omega arith

-- the same for a number that is equal
pub balance_as : (frees' allocs : ℕ) {now live' more : ℕ} → now ≡ live' → live' + frees' + allocs ≡ more → now + frees' + allocs ≡ more
balance_as frees' allocs e f = omega arith

pub balance_chain : (l f a l' f' a' l'' f'' a'' : ℕ) → l' + f' + a ≡ l + f + a' → l'' + f'' + a' ≡ l' + f' + a'' → l'' + f'' + a ≡ l + f + a''
balance_chain l f a l' f' a' l'' f'' a'' e g = omega arith

pub none_more : {live live' more : ℕ} → live' ≡ live + more → more ≡ 0 → live' ≡ live
none_more e f = omega arith

pub none_gone : {live live' gone : ℕ} → live' + gone ≡ live → gone ≡ 0 → live' ≡ live
none_gone e f = omega arith
