-- What a step of a reading gives: a value where a test is passed or one is found, and the step behind it what it makes of that value.
use Rattle.std.proofs.Common.{◌≡◌, Bool, true, false, cond, Option, Some, None, Result, Ok, Err, IfOk, refl}
use Rattle.trace_lines.specs.declared.refused.TraceKind.{TraceKind}
use Rattle.trace_lines.specs.Fields.{◌>>=◌}

-- the value of a step that gave one
pub bound : {A B : Type 0} (r : Result A TraceKind) (f : A → Result B TraceKind) (y : B) → (r >>= f) ≡ Ok y → (x : A) × (r ≡ Ok x) × (f x ≡ Ok y)
bound (Ok x) f y e = (x, refl, e)
bound (Err why) f y e = absurd cc

-- what holds of each value that the second step gives, where the first step's values have a property
pub step : {A B : Type 0} (P : A → Type 0) (Q : B → Type 0) (r : Result A TraceKind) (f : A → Result B TraceKind) → IfOk r P → ((x : A) → P x → IfOk (f x) Q) → IfOk (r >>= f) Q
step P Q (Ok x) f h g = g x h
step P Q (Err why) f h g = tt

-- the same, whatever the first step gives
pub any : {A B : Type 0} (Q : B → Type 0) (r : Result A TraceKind) (f : A → Result B TraceKind) → ((x : A) → IfOk (f x) Q) → IfOk (r >>= f) Q
any Q (Ok x) f g = g x
any Q (Err why) f g = tt

pub from_ok : {A : Type 0} (P : A → Type 0) (r : Result A TraceKind) → ((x : A) → r ≡ Ok x → P x) → IfOk r P
from_ok P (Ok x) h = h x refl
from_ok P (Err why) h = tt

-- a value that is given where a test is passed
pub where_true : {A : Type 0} (P : A → Type 0) (b : Bool) (x : A) (why : TraceKind) → (b ≡ true → P x) → IfOk (cond b (Ok x) (Err why)) P
where_true P true x why h = h refl
where_true P false x why h = tt

pub is_true : {A : Type 0} (b : Bool) (x y : A) (why : TraceKind) → cond b (Ok x) (Err why) ≡ Ok y → (b ≡ true) × (x ≡ y)
is_true true x y why e = (refl, cc)
is_true false x y why e = absurd cc

-- a value that is given where there is one
abbrev pub or_wrong : {A : Type 0} → TraceKind → Option A → Result A TraceKind
or_wrong why (Some x) = Ok x
or_wrong why None = Err why

pub is_some_value : {A : Type 0} (o : Option A) (why : TraceKind) (x : A) → or_wrong why o ≡ Ok x → o ≡ Some x
is_some_value (Some y) why x e = cc
is_some_value None why x e = absurd cc
