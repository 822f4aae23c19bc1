-- The order of fits: by size, and by base among those of one size.
use Rattle.std.proofs.Common.{◌≡◌, ◌≤◌, Bool, true, false, ◌==◌, ◌&&◌, arith}
use Rattle.std.proofs.lemmas.Bool.Decides.{nat_tests}
use Rattle.vmem_arena.specs.declared.free.Fit.{Fit}
use Rattle.vmem_arena.specs.Fits.{is_before}

-- what is before another isn't behind it
pub not_behind : (a b : Fit) → is_before a b ≡ true → is_before b a ≡ false
not_behind a b h = grind (arith, nat_tests)

-- what is before the one of two that comes first is before the other
pub before_further : (x f y : Fit) → is_before f x ≡ false → is_before y x ≡ true → is_before y f ≡ true
before_further x f y h p = grind (arith, nat_tests)

-- what is before a fit is before all that aren't before that
pub before_later : (k f y : Fit) → is_before k f ≡ true → is_before y f ≡ false → is_before k y ≡ true
before_later k f y h p = grind (arith, nat_tests)

pub before_earlier : (k f y : Fit) → is_before f k ≡ true → is_before f y ≡ false → is_before y k ≡ true
before_earlier k f y h p = grind (arith, nat_tests)

-- none is larger than one that isn't before it
pub size_le : (f y : Fit) → is_before f y ≡ false → y.size ≤ f.size
size_le f y h = grind (arith, nat_tests)

-- one of another size or base
abbrev pub is_fit : Fit → Fit → Bool
is_fit k f = f.size == k.size && f.base == k.base

pub same_not_before : (k f : Fit) → is_fit k f ≡ true → is_before k f ≡ false
same_not_before k f h = grind (arith, nat_tests)

pub same_not_behind : (k f : Fit) → is_fit k f ≡ true → is_before f k ≡ false
same_not_behind k f h = grind (arith, nat_tests)

-- what is neither before nor behind another is of its size and base
pub same_size : (k f : Fit) → is_before k f ≡ false → is_before f k ≡ false → f.size ≡ k.size
same_size k f h p = grind (arith, nat_tests)

pub same_base : (k f : Fit) → is_before k f ≡ false → is_before f k ≡ false → f.base ≡ k.base
same_base k f h p = grind (arith, nat_tests)
