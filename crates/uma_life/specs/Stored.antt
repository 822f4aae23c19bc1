-- Own: what contracts see of a stored item.
use Rattle.std.specs.Prelude.{ℕ, List}
use Rattle.uma_life.specs.declared.states.Stored.{Stored}

abbrev pub stored_body : {T : Type 0} {g : _} → Stored T g → T
stored_body item = item.body

abbrev pub stored_no : {T : Type 0} {g : _} → Stored T g → ℕ
stored_no {g = g} item = (g.life item.body).no

-- what its body is of
abbrev pub stored_origin : {T : Type 0} {g : _} → Stored T g → List ℕ
stored_origin {g = g} item = g.origin item.body
