-- What a local knows of its directory after a bind or an unbind.
use Rattle.std.proofs.Common.{◌≡◌, ℕ, Option, Some, None, refl, sym, subst}
use Rattle.std.specs.Option.{option_map}
use Rattle.std.specs.Prelude.{IfSome, IfNone}
use Rattle.smr_clock.specs.declared.view.View.{View}
use Rattle.name_rows.specs.declared.names.Part.{Part}
use Rattle.name_cache.specs.declared.binding.Receipt.{Receipt}
use Rattle.name_cache.specs.Bind.{Binds}
use Rattle.name_cache.specs.Known.{IsAbove, known_in}
use Rattle.name_cache.specs.Types.{ZoneOfEntries, EntrySeat}
use Rattle.name_cache.specs.Unbind.{Unbinds}
use Rattle.uma.specs.Directory.{WasBound}

pub bound_by_bind : (zone : ZoneOfEntries) (rows key value said : ℕ) (v : View Part) (old : EntrySeat) (receipt : Receipt) (v' : View Part) (new : EntrySeat) → value ≡ said → Binds zone rows key value v old receipt v' new
    → WasBound key said (known_in v')
bound_by_bind zone rows key value said v old receipt v' new is b =
    record { at = b.knows.at; knows = b.knows.knows; bound = _; content = b.knows.binds; named = refl; valued = is }

pub bound_by_unbind : (rows key value : ℕ) (v : View Part) (old : EntrySeat) (receipt : Receipt) (v' : View Part) (new : EntrySeat) → Unbinds rows key value v old receipt v' new → WasBound key value (known_in v')
bound_by_unbind rows key value v old receipt v' new u =
    record { at = u.before; knows = u.met.knows; bound = u.bound; content = u.content; named = u.key_bound; valued = u.value_bound }

value_bound : (rows key : ℕ) (v v' : View Part) (old new : EntrySeat) (found : Option (ℕ × Receipt)) → IfSome found (λ pair. Unbinds rows key pair.0 v old pair.1 v' new)
    → IfSome (option_map (λ pair. pair.0) found) (λ value. WasBound key value (known_in v'))
value_bound rows key v v' old new (Some pair) u = bound_by_unbind rows key pair.0 v old pair.1 v' new u
value_bound rows key v v' old new None u = tt

pub unbound : (rows key : ℕ) (v v' : View Part) (old new : EntrySeat) (found : Option (ℕ × Receipt)) (r : Option ℕ) → r ≡ option_map (λ pair. pair.0) found
    → IfSome found (λ pair. Unbinds rows key pair.0 v old pair.1 v' new) → IfSome r (λ value. WasBound key value (known_in v'))
unbound rows key v v' old new found r is u = subst (λ (o : Option ℕ). IfSome o (λ value. WasBound key value (known_in v'))) (sym is) (value_bound rows key v v' old new found u)

-- a name that was taken out, by its receipt
abbrev TakenOut : (rows key value : ℕ) (v : View Part) (old : EntrySeat) (v' : View Part) (new : EntrySeat) → Type 0
TakenOut rows key value v old v' new = (receipt : Receipt) × Unbinds rows key value v old receipt v' new × IsAbove receipt.row receipt.version v

by_receipt : (rows key : ℕ) (v v' : View Part) (old new : EntrySeat) (found : Option (ℕ × Receipt)) → IfSome found (λ pair. Unbinds rows key pair.0 v old pair.1 v' new)
    → IfSome found (λ pair. IsAbove pair.1.row pair.1.version v) → IfSome (option_map (λ pair. pair.0) found) (λ value. TakenOut rows key value v old v' new)
by_receipt rows key v v' old new (Some pair) u above = (pair.1, u, above)
by_receipt rows key v v' old new None u above = tt

pub taken_out : (rows key : ℕ) (v v' : View Part) (old new : EntrySeat) (found : Option (ℕ × Receipt)) (r : Option ℕ) → r ≡ option_map (λ pair. pair.0) found
    → IfSome found (λ pair. Unbinds rows key pair.0 v old pair.1 v' new) → IfSome found (λ pair. IsAbove pair.1.row pair.1.version v) → IfSome r (λ value. TakenOut rows key value v old v' new)
taken_out rows key v v' old new found r is u above = subst (λ (o : Option ℕ). IfSome o (λ value. TakenOut rows key value v old v' new)) (sym is) (by_receipt rows key v v' old new found u above)

none_there : (P : Type 0) (found : Option (ℕ × Receipt)) → IfNone found P → IfNone (option_map (λ pair. pair.0) found) P
none_there P (Some pair) none = tt
none_there P None none = none

pub none_taken : (P : Type 0) (found : Option (ℕ × Receipt)) (r : Option ℕ) → r ≡ option_map (λ pair. pair.0) found → IfNone found P → IfNone r P
none_taken P found r is none = subst (λ (o : Option ℕ). IfNone o P) (sym is) (none_there P found none)
