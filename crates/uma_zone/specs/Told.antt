-- Own: what becomes of the host's part of a pass in a request.
use Rattle.std.specs.Prelude.{◌≡◌, ◌⊎◌}

-- It is as it was, or has taken in what a note had, as the host merges the two.
abbrev pub TakesInNote : {P : Type 0} → (P → P → P) → P → P → Type 0
TakesInNote {P} merged was is = (is ≡ was) ⊎ ((other : P) × (is ≡ merged was other))
