-- The lines of given rounds in the order of the canonical text: read back they give those rounds, and they are the rounds' lines.
use Rattle.std.proofs.Common.{◌≡◌, ℕ, zero, suc, ◌+◌, ◌<◌, false, List, [], ◌∷◌, ◌++◌, map, length, get_or, refl, sym, ap, ap₂, ◌∙◌, append_assoc, append-nil, map-id, eq-eqb, ne_eqb, arith}
use Rattle.std.specs.Prelude.{All}
use Rattle.std.specs.List.{flat_map, slice_split}
use Rattle.std.proofs.lemmas.List.Concat.{flat_map-append}
use Rattle.std.proofs.lemmas.List.Elements.{All-nil, All-cons, All-head, All-tail, All-append}
use Rattle.std.proofs.lemmas.List.FromFn.{fill_by_all}
use Rattle.std.proofs.lemmas.List.Splits.{slice_split_none, slice_split_at}
use Rattle.trace_text.specs.declared.trace.Between.{Between}
use Rattle.trace_text.specs.declared.trace.Head.{Head}
use Rattle.trace_text.specs.declared.trace.Op.{Op}
use Rattle.trace_text.specs.declared.trace.Round.{Round}
use Rattle.trace_text.specs.declared.trace_reading.fields.Entry.{Entry}
use Rattle.trace_text.specs.declared.trace_reading.fields.Entry.TheVariants as entries
use Rattle.trace_text.specs.Grammar.{is_round, op_by, between_in, ops_in, rounds_in}
use Rattle.trace_text.specs.Lines.{Line, Does, Moves, worker_lines, lines_of}
use Rattle.trace_text.specs.Valid.{RoundFits, LastRoundEnds}
use Rattle.trace_text.proofs.TraceParts.{entry_line}

-- the lines of the workers from number `w` on
abbrev pub ops_entries : ℕ → List (List Op) → List Entry
ops_entries w [] = []
ops_entries w (ops ∷ lists) = map (entries.Does w) ops ++ ops_entries (w + 1) lists

-- the rounds' lines in the order of the canonical text
abbrev pub rounds_entries : List Round → List Entry
rounds_entries [] = []
rounds_entries (r ∷ []) = ops_entries 0 r.ops
rounds_entries (r ∷ next ∷ rounds) = ops_entries 0 r.ops ++ (entries.Round ∷ (map entries.Moves r.between ++ rounds_entries (next ∷ rounds)))

-- lines between two rounds, and then what the workers do
abbrev part_of : List Between → List (List Op) → List Entry
part_of betweens lists = map entries.Moves betweens ++ ops_entries 0 lists

-- ---- what some lines of one kind add to what is taken from all

-- one thing of each
one_each : {X Y : Type 0} (take : Entry → List Y) (line : X → Entry) (of : X → Y) (xs : List X) (rest : List Entry)
    → ((x : X) → take (line x) ≡ of x ∷ []) → flat_map take (map line xs ++ rest) ≡ map of xs ++ flat_map take rest
one_each take line of [] rest one = refl
one_each {X} {Y} take line of (x ∷ xs) rest one =
    ap₂ (λ (a b : List Y). a ++ b) (one x) (one_each take line of xs rest one)

-- the very things that the lines are of
itself_each : {X : Type 0} (take : Entry → List X) (line : X → Entry) (xs : List X) (rest : List Entry)
    → ((x : X) → take (line x) ≡ x ∷ []) → flat_map take (map line xs ++ rest) ≡ xs ++ flat_map take rest
itself_each {X} take line xs rest one =
    one_each take line (λ x. x) xs rest one ∙ ap (λ (ys : List X). ys ++ flat_map take rest) (map-id xs)

-- nothing
none_each : {X Y : Type 0} (take : Entry → List Y) (line : X → Entry) (xs : List X) (rest : List Entry)
    → ((x : X) → take (line x) ≡ []) → flat_map take (map line xs ++ rest) ≡ flat_map take rest
none_each take line [] rest none = refl
none_each {X} {Y} take line (x ∷ xs) rest none =
    ap₂ (λ (a b : List Y). a ++ b) (none x) (none_each take line xs rest none)

-- ---- what each worker does

-- an operation is its worker's, and no other's
own_op : (w v : ℕ) (op : Op) → w ≡ v → op_by v (entries.Does w op) ≡ op ∷ []
own_op w v op e = rw (eq-eqb w v e) refl

other_op : (w v : ℕ) (op : Op) → (w ≡ v → ⊥) → op_by v (entries.Does w op) ≡ []
other_op w v op ne = rw (ne_eqb w v ne) refl

-- a worker before these does nothing here
earlier_worker : (lists : List (List Op)) (first v : ℕ) → v < first → flat_map (op_by v) (ops_entries first lists) ≡ []
earlier_worker [] first v lt = refl
earlier_worker (ops ∷ lists) first v lt =
    none_each (op_by v) (entries.Does first) ops (ops_entries (first + 1) lists) (λ op. other_op first v op (λ e. omega arith))
    ∙ earlier_worker lists (first + 1) v (omega arith)

-- of the lines of workers from a first one on, each worker's are those at its place
at_place : (lists : List (List Op)) (first k v : ℕ) → first + k ≡ v → flat_map (op_by v) (ops_entries first lists) ≡ get_or lists k []
at_place [] first k v e = refl
at_place (ops ∷ lists) first zero v e =
    itself_each (op_by v) (entries.Does first) ops (ops_entries (first + 1) lists) (λ op. own_op first v op (omega arith))
    ∙ ap (λ (more : List Op). ops ++ more) (earlier_worker lists (first + 1) v (omega arith))
    ∙ append-nil ops
at_place (ops ∷ lists) first (suc k) v e =
    none_each (op_by v) (entries.Does first) ops (ops_entries (first + 1) lists) (λ op. other_op first v op (λ same. omega arith))
    ∙ at_place lists (first + 1) k v (omega arith)

-- of the lines of all workers, worker `w`'s are those at place `w`
pub ops_at_place : (lists : List (List Op)) (w : ℕ) → flat_map (op_by w) (ops_entries 0 lists) ≡ get_or lists w []
ops_at_place lists w = at_place lists 0 w w (omega arith)

-- the lines of all workers, behind lines between two rounds, give back what each does
ops_rebuilt : (workers : ℕ) (betweens : List Between) (lists : List (List Op)) → length lists ≡ workers
    → ops_in workers (part_of betweens lists) ≡ lists
ops_rebuilt workers betweens lists long =
    sym (fill_by_all (λ (w : ℕ). flat_map (op_by w) (part_of betweens lists)) lists workers [] long
    (λ w lt. sym (none_each (op_by w) entries.Moves betweens (ops_entries 0 lists) (λ between. refl) ∙ ops_at_place lists w)))

-- ---- the lines between two rounds

-- the workers' lines have none, so a part betweens back those it begins with
no_betweens : (w : ℕ) (lists : List (List Op)) → flat_map between_in (ops_entries w lists) ≡ []
no_betweens w [] = refl
no_betweens w (ops ∷ lists) = none_each between_in (entries.Does w) ops (ops_entries (w + 1) lists) (λ op. refl) ∙ no_betweens (w + 1) lists

betweens_rebuilt : (betweens : List Between) (lists : List (List Op)) → flat_map between_in (part_of betweens lists) ≡ betweens
betweens_rebuilt betweens lists =
    itself_each between_in entries.Moves betweens (ops_entries 0 lists) (λ between. refl)
    ∙ ap (λ (more : List Between). betweens ++ more) (no_betweens 0 lists)
    ∙ append-nil betweens

-- ---- the parts between the `round` lines

-- not a `round` line
abbrev IsOther : Entry → Type 0
IsOther line = is_round line ≡ false

others_of_ops : (w : ℕ) (ops : List Op) → All IsOther (map (entries.Does w) ops)
others_of_ops w [] = All-nil IsOther
others_of_ops w (op ∷ ops) = All-cons IsOther (entries.Does w op) (map (entries.Does w) ops) refl (others_of_ops w ops)

others_of_lists : (w : ℕ) (lists : List (List Op)) → All IsOther (ops_entries w lists)
others_of_lists w [] = All-nil IsOther
others_of_lists w (ops ∷ lists) = All-append IsOther (map (entries.Does w) ops) (ops_entries (w + 1) lists) (others_of_ops w ops) (others_of_lists (w + 1) lists)

others_of_part : (betweens : List Between) (lists : List (List Op)) → All IsOther (part_of betweens lists)
others_of_part [] lists = others_of_lists 0 lists
others_of_part (between ∷ betweens) lists = All-cons IsOther (entries.Moves between) (part_of betweens lists) refl (others_of_part betweens lists)

-- the parts of these rounds, of which the first one is behind these lines
abbrev parts_of : List Between → List Round → List (List Entry)
parts_of betweens [] = []
parts_of betweens (r ∷ rounds) = part_of betweens r.ops ∷ parts_of r.between rounds

-- the `round` lines cut the rounds' lines into these parts
split_at_rounds : (betweens : List Between) (r : Round) (rounds : List Round)
    → slice_split is_round (map entries.Moves betweens ++ rounds_entries (r ∷ rounds)) ≡ parts_of betweens (r ∷ rounds)
split_at_rounds betweens r [] = slice_split_none is_round (part_of betweens r.ops) (others_of_part betweens r.ops)
split_at_rounds betweens r (next ∷ rounds) =
    let rest : List Entry = map entries.Moves r.between ++ rounds_entries (next ∷ rounds) in
    ap (λ (lines : List Entry). slice_split is_round lines) (sym (append_assoc (map entries.Moves betweens) (ops_entries 0 r.ops) (entries.Round ∷ rest)))
    ∙ slice_split_at is_round (part_of betweens r.ops) entries.Round rest (others_of_part betweens r.ops) refl
    ∙ ap (λ (parts : List (List Entry)). part_of betweens r.ops ∷ parts) (split_at_rounds r.between next rounds)

-- ---- the rounds, read back

-- rounds are the same if their operations and the lines behind them are
same_round : (r : Round) (ops : List (List Op)) (between : List Between) → ops ≡ r.ops → between ≡ r.between
    → (let round : Round = record { ops = ops; between = between } in round) ≡ r
same_round r ops between of_ops of_between =
    ap₂ (λ (o : List (List Op)) (b : List Between). let round : Round = record { ops = o; between = b } in round) of_ops of_between

-- these parts give the rounds back
rounds_of_parts : (h : Head) (betweens : List Between) (r : Round) (rounds : List Round) → All (RoundFits h) (r ∷ rounds) → LastRoundEnds (r ∷ rounds)
    → rounds_in h.workers (parts_of betweens (r ∷ rounds)) ≡ r ∷ rounds
rounds_of_parts h betweens r [] fit ends =
    ap (λ (round : Round). round ∷ [])
    (same_round r (ops_in h.workers (part_of betweens r.ops)) [] (ops_rebuilt h.workers betweens r.ops (All-head (RoundFits h) r [] fit).workers) (sym ends))
rounds_of_parts h betweens r (next ∷ rounds) fit ends =
    ap₂ (λ (round : Round) (more : List Round). round ∷ more)
    (same_round r (ops_in h.workers (part_of betweens r.ops)) (flat_map between_in (part_of r.between next.ops))
    (ops_rebuilt h.workers betweens r.ops (All-head (RoundFits h) r (next ∷ rounds) fit).workers) (betweens_rebuilt r.between next.ops))
    (rounds_of_parts h r.between next rounds (All-tail (RoundFits h) r (next ∷ rounds) fit) ends)

-- the lines of rounds, cut at the `round` lines, give the rounds back
pub rounds_rebuilt : (h : Head) (rounds : List Round) → All (RoundFits h) rounds → LastRoundEnds rounds
    → rounds_in h.workers (slice_split is_round (rounds_entries rounds)) ≡ rounds
rounds_rebuilt h [] fit ends = absurd ends
rounds_rebuilt h (r ∷ rounds) fit ends =
    ap (λ (parts : List (List Entry)). rounds_in h.workers parts) (split_at_rounds [] r rounds) ∙ rounds_of_parts h [] r rounds fit ends

-- ---- the lines of the rounds

-- the workers' lines, as those that fill and empty slots, or enter and leave sections
lines_of_workers : (w : ℕ) (lists : List (List Op)) → flat_map entry_line (ops_entries w lists) ≡ worker_lines w lists
lines_of_workers w [] = refl
lines_of_workers w (ops ∷ lists) =
    one_each entry_line (entries.Does w) (Does w) ops (ops_entries (w + 1) lists) (λ op. refl)
    ∙ ap (λ (more : List Line). map (Does w) ops ++ more) (lines_of_workers (w + 1) lists)

-- but for the `round` lines, the rounds' lines in the order of the canonical text are those of the rounds
pub lines_are_entries : (rounds : List Round) → LastRoundEnds rounds → flat_map entry_line (rounds_entries rounds) ≡ lines_of rounds
lines_are_entries [] ends = refl
lines_are_entries (r ∷ []) ends =
    let lines : List Line = worker_lines 0 r.ops in
    lines_of_workers 0 r.ops
    ∙ sym (append-nil lines)
    ∙ ap (λ (betweens : List Between). lines ++ map Moves betweens) (sym ends)
    ∙ sym (append-nil (lines ++ map Moves r.between))
lines_are_entries (r ∷ next ∷ rounds) ends =
    let lines : List Line = worker_lines 0 r.ops in
    let rest : List Entry = map entries.Moves r.between ++ rounds_entries (next ∷ rounds) in
    flat_map-append entry_line (ops_entries 0 r.ops) (entries.Round ∷ rest)
    ∙ ap₂ (λ (front more : List Line). front ++ more) (lines_of_workers 0 r.ops)
    (one_each entry_line entries.Moves Moves r.between (rounds_entries (next ∷ rounds)) (λ between. refl)
    ∙ ap (λ (more : List Line). map Moves r.between ++ more) (lines_are_entries (next ∷ rounds) ends))
    ∙ sym (append_assoc lines (map Moves r.between) (lines_of (next ∷ rounds)))
