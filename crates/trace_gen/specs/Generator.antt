-- The generator of traces (own): each step draws numbers from xoshiro256++, and by them and by what the workers' slots hold it
-- writes a line, or a `round` line with a `give` line behind it.
use Rattle.std.specs.Prelude.{ℕ, ◌+◌, ◌%◌, zero, suc, List, [], ◌∷◌, ◌++◌, length, position, replicate, slice_index_or, slice_set, Bool, true, false, not, Option, Some, None, if◌then◌else◌, nat_lt, nat_le, ◌==◌}
use Rattle.rand_xoshiro.specs.SplitMix64.{splitmix_seed}
use Rattle.rand_xoshiro.specs.Xoshiro256.{of_seed, plus_plus}
use Rattle.trace_text.specs.declared.trace.Between.{Between}
use Rattle.trace_text.specs.declared.trace.Between.TheVariants.{Give, SetMax}
use Rattle.trace_text.specs.declared.trace.Op.{Op}
use Rattle.trace_text.specs.declared.trace.Op.TheVariants.{Alloc, Free, Bind, Unbind, Look}
use Rattle.trace_text.specs.declared.trace_reading.fields.Entry.{Entry}
use Rattle.trace_text.specs.declared.trace_reading.fields.Entry.TheVariants as entries
use Rattle.trace_gen.specs.declared.generator.Drawn.{Drawn}
use Rattle.trace_gen.specs.declared.generator.Drawn.TheVariants.{Does, Round}

-- ---- random numbers

-- the state of the random numbers that a seed gives
unfoldable pub seeded : ℕ → List ℕ
seeded seed = of_seed (splitmix_seed 32 seed)

-- a draw below `n`: the next word of 64 bits modulo `n`, and the state behind it
unfoldable pub draw : ℕ → List ℕ → ℕ × List ℕ
draw n random = ((plus_plus random).0 % n, (plus_plus random).1)

-- ---- a worker's slots: of each of the first 256, in order, whether it is filled
-- No slot past these is ever filled, since each is filled as the least free one while fewer than 256 are.

-- the least slot that isn't filled, where fewer than 256 are
abbrev pub least_free : List Bool → Option ℕ
least_free slots = position not slots

-- the least slot that is filled
abbrev pub least_filled : List Bool → Option ℕ
least_filled slots = position (λ filled. filled) slots

-- the filled ones of the slots from number `slot` on, in rising order
abbrev pub filled_from : ℕ → List Bool → List ℕ
filled_from slot [] = []
filled_from slot (filled ∷ slots) = if filled then slot ∷ filled_from (slot + 1) slots else filled_from (slot + 1) slots

abbrev pub filled_slots : List Bool → List ℕ
filled_slots slots = filled_from 0 slots

-- ---- what a worker is drawn to do, and the random numbers' state behind the draws

abbrev pub look_drawn : List ℕ → Op × List ℕ
look_drawn random = let key = draw 256 random in (Look key.0, key.1)

abbrev pub unbind_drawn : List ℕ → Op × List ℕ
unbind_drawn random = let key = draw 256 random in (Unbind key.0, key.1)

-- a bind where fewer than 3,000 were made, else a look
abbrev pub bind_drawn : ℕ → List ℕ → Op × List ℕ
bind_drawn binds random =
    if nat_lt binds 3000
    then (let key = draw 256 random in let value = draw 4294967296 key.1 in (Bind key.0 value.0, value.1))
    else look_drawn random

-- a free of one of the filled slots, else a look
abbrev pub free_drawn : List Bool → List ℕ → Op × List ℕ
free_drawn slots random =
    let filled = filled_slots slots in
    if nat_lt 0 (length filled)
    then (let number = draw (length filled) random in (Free (slice_index_or filled number.0 0), number.1))
    else look_drawn random

-- a request into this slot, the least free one, where there is one; else as where a free is drawn
abbrev pub alloc_into : Option ℕ → List Bool → List ℕ → Op × List ℕ
alloc_into (Some slot) slots random = let zone = draw 3 random in (Alloc zone.0 slot 0 false, zone.1)
alloc_into None slots random = free_drawn slots random

abbrev pub alloc_drawn : List Bool → List ℕ → Op × List ℕ
alloc_drawn slots random = alloc_into (least_free slots) slots random

-- what a worker with these slots does by `choice`, which is below 64 and isn't 50
abbrev pub op_drawn : List Bool → ℕ → ℕ → List ℕ → Op × List ℕ
op_drawn slots binds choice random =
    if nat_lt choice 24 then alloc_drawn slots random
    else if nat_lt choice 44 then free_drawn slots random
    else if nat_lt choice 48 then bind_drawn binds random
    else if nat_lt choice 50 then unbind_drawn random
    else look_drawn random

-- ---- what an operation leaves behind

abbrev pub slots_after : Op → List Bool → List Bool
slots_after (Alloc zone slot arg reserve) slots = slice_set slots slot true
slots_after (Free slot) slots = slice_set slots slot false
slots_after op slots = slots

abbrev pub binds_after : Op → ℕ → ℕ
binds_after (Bind key value) binds = binds + 1
binds_after op binds = binds

-- ---- the line behind a `round` line

-- from worker 0's least filled slot to worker 1's least free one, where there are these
abbrev pub give_between : Option ℕ → Option ℕ → Option Between
give_between (Some slot) (Some slot2) = Some (Give 0 slot 1 slot2)
give_between (Some slot) None = None
give_between None to = None

abbrev pub give_drawn : ℕ → List (List Bool) → Option Between
give_drawn workers slots =
    if nat_le 2 workers then give_between (least_filled (slice_index_or slots 0 [])) (least_free (slice_index_or slots 1 [])) else None

-- what is given leaves the one slot and fills the other
abbrev pub slots_given : Option Between → List (List Bool) → List (List Bool)
slots_given (Some (Give giver slot taker slot2)) slots =
    let left = slice_set slots giver (slice_set (slice_index_or slots giver []) slot false) in
    slice_set left taker (slice_set (slice_index_or left taker []) slot2 true)
slots_given (Some (SetMax zone limit)) slots = slots
slots_given None slots = slots

-- ---- the steps

-- the slots of each worker, how many binds were made, and the state of the random numbers
pub record State : Type 0 where
  pub slots : List (List Bool)
  pub binds : ℕ
  pub random : List ℕ

abbrev pub begun : ℕ → ℕ → State
begun seed workers = record { slots = replicate workers (replicate 256 false); binds = 0; random = seeded seed }

-- what worker `worker` does by this choice
abbrev pub work_step : ℕ → ℕ → State → Drawn × State
work_step worker choice s =
    let slots = slice_index_or s.slots worker [] in
    let op = op_drawn slots s.binds choice s.random in
    (Does worker op.0, record { slots = slice_set s.slots worker (slots_after op.0 slots); binds = binds_after op.0 s.binds; random = op.1 })

abbrev pub round_step : ℕ → State → Drawn × State
round_step workers s =
    let give = give_drawn workers s.slots in
    (Round give, record { slots = slots_given give s.slots; binds = s.binds; random = s.random })

-- one step: the worker is drawn, then the choice
abbrev pub step : ℕ → State → Drawn × State
step workers s =
    let worker = draw workers s.random in
    let choice = draw 64 worker.1 in
    let behind : State = record { slots = s.slots; binds = s.binds; random = choice.1 } in
    if choice.0 == 50 then round_step workers behind else work_step worker.0 choice.0 behind

-- ---- the lines

abbrev pub give_entries : Option Between → List Entry
give_entries (Some between) = entries.Moves between ∷ []
give_entries None = []

abbrev pub entries_of : Drawn → List Entry
entries_of (Does worker op) = entries.Does worker op ∷ []
entries_of (Round give) = entries.Round ∷ give_entries give

-- the lines of so many steps
abbrev pub drawn_lines : ℕ → ℕ → State → List Entry
drawn_lines workers zero s = []
drawn_lines workers (suc left) s = let next = step workers s in entries_of next.0 ++ drawn_lines workers left next.1
