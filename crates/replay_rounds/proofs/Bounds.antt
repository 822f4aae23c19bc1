-- Bounds of plain numbers, so that no proof over workers searches through them.
use Rattle.std.proofs.Common.{◌≡◌, ℕ, ◌+◌, ◌*◌, ◌<◌, ◌≤◌, ◌^◌, arith}

pub few_lines : {before own all : ℕ} → before ≤ all → own ≤ all → all < 2 ^ 31 → before + own < 2 ^ 32
few_lines a b few = omega arith

pub few_asks : {asked all : ℕ} (done own : ℕ) → asked ≤ 100000000 * done → done ≤ all → own ≤ all → all < 2 ^ 31 → asked + 100000000 * own < 2 ^ 64
few_asks done own a b c few = omega arith

pub few_given_up : {gave_up own all done : ℕ} → gave_up ≤ done → done ≤ all → own ≤ all → all < 2 ^ 31 → gave_up + own < 2 ^ 64
few_given_up a b c few = omega arith

pub some_more : {done now asked asked' : ℕ} (own : ℕ) → now ≡ own + done → done ≤ asked → asked + own ≤ asked' → now ≤ asked'
some_more own e a b = omega arith

pub few_more : {now asked asked' : ℕ} (done own : ℕ) → now ≡ own + done → asked ≤ 100000000 * done → asked' ≤ asked + 100000000 * own → asked' ≤ 100000000 * now
few_more done own e a b = omega arith

pub one_more : {done now gave_up gave_up' : ℕ} (own : ℕ) → now ≡ own + done → gave_up ≤ done → gave_up' ≤ gave_up + own → gave_up' ≤ now
one_more own e a b = omega arith

pub up_by_two : {a b c : ℕ} → a ≤ b → b ≤ c → a ≤ c
up_by_two e f = omega arith

pub below_as : {i n m : ℕ} → i < n → n ≡ m → i < m
below_as below same = omega arith

pub some_of : {n m : ℕ} → n ≡ m → 1 ≤ m → 0 < n
some_of e some = omega arith

pub none_done : {done n : ℕ} → done ≡ 0 → done ≤ n
none_done e = omega arith

pub none_asked : {asked : ℕ} (done : ℕ) → asked ≡ 0 → asked ≤ 100000000 * done
none_asked done e = omega arith

-- ---- the same of a number that is equal

pub some_as : {a b : ℕ} → a ≡ b → 0 < b → 0 < a
some_as e some = omega arith

pub sum_as : {fails a b : ℕ} (turned : ℕ) → a ≡ b → fails ≤ turned + b → fails ≤ turned + a
sum_as turned e few = omega arith

pub least_as : {fails a b : ℕ} → a ≡ b → b ≤ fails → a ≤ fails
least_as e few = omega arith

pub most_as : {frees a b : ℕ} → a ≡ b → frees ≤ b → frees ≤ a
most_as e few = omega arith

pub up_as : {count a b : ℕ} → a ≡ b → count ≤ b → count ≤ a
up_as e few = omega arith

pub both_as : (b d : ℕ) {frees a c : ℕ} → a ≡ b → c ≡ d → frees ≤ b + d → frees ≤ a + c
both_as b d e f few = omega arith

-- ---- items, frees and allocs

pub past_end : {i z n : ℕ} → i ≡ z → i < n → n ≤ z → ⊥
past_end same below past = omega arith

pub past_as : {z n m : ℕ} → n ≡ m → n ≤ z → m ≤ z
past_as same past = omega arith

pub never_both : {z n m k : ℕ} → z < n → m ≤ z → n ≡ k → m ≡ k → ⊥
never_both below past e f = omega arith

pub as_counted : {f a f' a' F A F' A' : ℕ} (l l' : ℕ) → F' ≡ f' → A ≡ a → F ≡ f → A' ≡ a' → l' + f' + a ≡ l + f + a' → l' + F' + A ≡ l + F + A'
as_counted l l' e g h i sum = omega arith

pub none_counts : {l l' F A F' A' : ℕ} → l' ≡ 0 → l ≡ 0 → F' ≡ 0 → A ≡ 0 → F ≡ 0 → A' ≡ 0 → l' + F' + A ≡ l + F + A'
none_counts c d e f g h = omega arith

-- ---- the counts of a worker that is as before

pub done_as : {a b c d : ℕ} → a ≡ b → c ≡ d → b ≤ d → a ≤ c
done_as e f few = omega arith

pub asked_as : {a b c d : ℕ} → a ≡ b → c ≡ d → b ≤ 100000000 * d → a ≤ 100000000 * c
asked_as e f few = omega arith

pub none_given_up : {gave_up : ℕ} (done : ℕ) → gave_up ≡ 0 → gave_up ≤ done
none_given_up done e = omega arith

-- ---- sums of counts, each at most 2^31

pub within : {n lines : ℕ} → lines < 2 ^ 31 → n ≤ lines → n ≤ 2 ^ 31
within few most = omega arith
