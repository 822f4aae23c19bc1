-- What the code tells of a field is what the field says.
use Rattle.std.proofs.Common.{◌≡◌, ℕ, false, List, Some, None, Ok, Err, refl}
use Rattle.std.specs.Prelude.{SomeIff}
use Rattle.std.proofs.lemmas.Bool.{false_from_ne_true}
use Rattle.trace_lines.specs.declared.refused.TraceKind.TheVariants as kinds
use Rattle.zone_stats.specs.Name.{IsName}
use Rattle.trace_text.specs.TraceLine.{is_name, name_in}
use Rattle.trace_text.proofs.Names.{IsName-from_is_name, is_name_from_IsName}

pub name_is : (field x : List ℕ) → SomeIff (Some x) (IsName field) field → name_in field ≡ Ok x
name_is field x h = rw (is_name_from_IsName field h.0, h.1) refl

pub no_name : (field : List ℕ) → SomeIff None (IsName field) field → name_in field ≡ Err kinds.Name
no_name field h =
    let not_one : is_name field ≡ false = false_from_ne_true (is_name field) (λ e. h (IsName-from_is_name field e)) in rw not_one refl
