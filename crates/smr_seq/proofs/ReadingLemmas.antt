-- The reading of a sequence, on plain numbers.
use Rattle.std.proofs.Common.{◌≡◌, ℕ, ◌-◌, ◌^◌, ◌<◌, ◌≤◌, Some, None, refl, sym, ◌∙◌, subst, arith}
use Rattle.std.proofs.lemmas.Bool.Decides.{nat_tests}
use Rattle.smr_seq.specs.Reading.{low, IsReading, last_with_low, reading, LowReadsBack, ReadingOfLow}

-- the reading is the last number up to l with its low half
pub last_with_low-IsReading : (c l x : ℕ) → IsReading c l x → last_with_low c l ≡ x
last_with_low-IsReading c l x r = omega arith

-- a reading is what the function answers
pub reading-IsReading : (c l x : ℕ) → IsReading c l x → reading c l ≡ Some x
unfolding reading
reading-IsReading c l x r =
    let e = last_with_low-IsReading c l x r in
    grind (arith, nat_tests)

-- what the function answers is a reading
pub IsReading-reading : (c l x : ℕ) → reading c l ≡ Some x → IsReading c l x
unfolding reading
IsReading-reading c l x e = grind (arith, nat_tests)

-- there are no two readings
pub IsReading-unique : (c l x y : ℕ) → IsReading c l x → IsReading c l y → x ≡ y
IsReading-unique c l x y p q = sym (last_with_low-IsReading c l x p) ∙ last_with_low-IsReading c l y q

-- where the function answers none there is no reading
pub none-reading : (c l x : ℕ) → reading c l ≡ None → IsReading c l x → ⊥
none-reading c l x e r = let s = reading-IsReading c l x r in cc

-- a number up to l and less than 2^31 below it is the reading of its low half
pub low-IsReading : (x l : ℕ) → x ≤ l → l - x < 2 ^ 31 → IsReading (low x) l x
low-IsReading x l p q = record { up_to = p; low_half = refl; near = q }

pub reading-low : ReadingOfLow
reading-low x l p q = reading-IsReading (low x) l x (low-IsReading x l p q)

pub low_reads_back : LowReadsBack
low_reads_back x l p q y = (
  (λ r. IsReading-unique (low x) l y x r (low-IsReading x l p q)),
  (λ e. subst (IsReading (low x) l) (sym e) (low-IsReading x l p q)),
)
