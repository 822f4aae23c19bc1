-- Counting over the lines of a trace (own). A list of lines has the last one first.
use Rattle.std.specs.Prelude.{ℕ, ◌+◌, List, [], ◌∷◌, Bool, false, not, ◌&&◌, ◌==◌, nat_lt, if◌then◌else◌, count_by}
use Rattle.std.specs.Option.{option_map_or}
use Rattle.trace_text.specs.declared.trace.Op.TheVariants.{Alloc, Free, Enter, Bind, Unbind, Look}
use Rattle.trace_text.specs.Lines.{Line, Does}
use Rattle.trace_text.specs.Reading.{held, in_section}

-- worker `n` requests an item of the zone at place `z`
abbrev pub is_ask : ℕ → ℕ → Line → Bool
is_ask n z (Does v (Alloc zone slot arg reserve)) = (v == n) && (zone == z)
is_ask n z line = false

-- the same, with an argument above 0
abbrev pub is_ask_with_arg : ℕ → ℕ → Line → Bool
is_ask_with_arg n z (Does v (Alloc zone slot arg reserve)) = (v == n) && ((zone == z) && nat_lt 0 arg)
is_ask_with_arg n z line = false

-- the same, with this argument
abbrev pub is_ask_with : ℕ → ℕ → ℕ → Line → Bool
is_ask_with n z code (Does v (Alloc zone slot arg reserve)) = (v == n) && ((zone == z) && (arg == code))
is_ask_with n z code line = false

-- worker `n` wants a section: by an `enter` line, or by a `look` line where it is in none
abbrev pub is_section : ℕ → List Line → Line → Bool
is_section n earlier (Does v Enter) = v == n
is_section n earlier (Does v (Look key)) = (v == n) && not (in_section earlier n)
is_section n earlier line = false

abbrev pub is_look : ℕ → Line → Bool
is_look n (Does v (Look key)) = v == n
is_look n line = false

abbrev pub is_bind : ℕ → Line → Bool
is_bind n (Does v (Bind key value)) = v == n
is_bind n line = false

abbrev pub is_unbind : ℕ → Line → Bool
is_unbind n (Does v (Unbind key)) = v == n
is_unbind n line = false

-- how many items of the zone at place `z` worker `n` requests in these lines
unfoldable pub asked : ℕ → ℕ → List Line → ℕ
asked n z lines = count_by (is_ask n z) lines

-- how many of them with an argument above 0
unfoldable pub argued : ℕ → ℕ → List Line → ℕ
argued n z lines = count_by (is_ask_with_arg n z) lines

-- how many of them with this argument
unfoldable pub asked_with : ℕ → ℕ → ℕ → List Line → ℕ
asked_with n z code lines = count_by (is_ask_with n z code) lines

-- how many sections it wants
unfoldable pub sections : ℕ → List Line → ℕ
sections n [] = 0
sections n (line ∷ earlier) = sections n earlier + (if is_section n earlier line then 1 else 0)

-- how often it looks a name up
unfoldable pub looks : ℕ → List Line → ℕ
looks n lines = count_by (is_look n) lines

-- how often it binds one
unfoldable pub binds : ℕ → List Line → ℕ
binds n lines = count_by (is_bind n) lines

-- how often it takes one out
unfoldable pub unbinds : ℕ → List Line → ℕ
unbinds n lines = count_by (is_unbind n) lines

-- worker `n` frees a slot that holds, in the reading of the earlier lines, what an alloc of the zone at place `z` put in
abbrev pub is_free_of : ℕ → ℕ → List Line → Line → Bool
is_free_of n z earlier (Does v (Free slot)) = (v == n) && option_map_or (λ zone. zone == z) (held earlier v slot) false
is_free_of n z earlier line = false

-- how many of these lines do
unfoldable pub freed : ℕ → ℕ → List Line → ℕ
freed n z [] = 0
freed n z (line ∷ earlier) = freed n z earlier + (if is_free_of n z earlier line then 1 else 0)
