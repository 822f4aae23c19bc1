-- The rounds of the lines that are drawn, one step's lines more at a time.
use Rattle.std.proofs.Common.{◌≡◌, ℕ, ◌+◌, Bool, true, false, List, [], ◌∷◌, ◌++◌, Option, Some, None, map, refl, sym, ap, ◌∙◌, append_assoc, append-nil, arith}
use Rattle.std.specs.Prelude.{option_to_list}
use Rattle.std.specs.List.{flat_map, slice_split, onto_first}
use Rattle.std.proofs.lemmas.Bool.{false≢true}
use Rattle.std.proofs.lemmas.List.FromFn.{map-range_with_len_more}
use Rattle.trace_text.specs.declared.trace.Between.{Between}
use Rattle.trace_text.specs.declared.trace.Op.{Op}
use Rattle.trace_text.specs.declared.trace.Round.{Round}
use Rattle.trace_text.specs.declared.trace_reading.fields.Entry.{Entry}
use Rattle.trace_text.specs.declared.trace_reading.fields.Entry.TheVariants as entries
use Rattle.trace_text.specs.Grammar.{is_round, op_by, between_in, ops_in, rounds_in}
use Rattle.trace_text.proofs.TraceParts.{BetweensStand}
use Rattle.trace_gen.specs.declared.generator.Did.{Did}
use Rattle.trace_gen.specs.declared.generator.Drawn.TheVariants as drawn
use Rattle.trace_gen.specs.Generator.{entries_of, give_entries}
use Rattle.trace_gen.specs.Rounds.{did_entry, rounds_with}

-- what one more worker does
pub ops_in_more : (workers : ℕ) (part : List Entry) → ops_in (workers + 1) part ≡ ops_in workers part ++ flat_map (op_by workers) part ∷ []
ops_in_more workers part = map-range_with_len_more (λ worker. flat_map (op_by worker) part) 0 workers workers (omega arith)

-- an operation behind those of the part
did_behind : (part : List Did) (did : Did) (rest : List Entry) → map did_entry (part ++ did ∷ []) ++ rest ≡ map did_entry part ++ did_entry did ∷ rest
did_behind [] did rest = refl
did_behind (first ∷ part) did rest = ap (λ (more : List Entry). did_entry first ∷ more) (did_behind part did rest)

pub with_did : (workers : ℕ) (ended : List Round) (part : List Did) (worker : ℕ) (op : Op) (rest : List Entry)
    → rounds_with workers ended (part ++ record { worker = worker; op = op } ∷ []) rest ≡ rounds_with workers ended part (entries_of (drawn.Does worker op) ++ rest)
with_did workers ended part worker op rest =
    ap (λ (lines : List Entry). ended ++ rounds_in workers (slice_split is_round lines)) (did_behind part (record { worker = worker; op = op }) rest)

-- there is a first part, which has no `give` lines where none may stand there
first_part : (begun : Bool) (lines : List Entry) → BetweensStand begun lines
    → (part : List Entry) × (parts : List (List Entry)) × (slice_split is_round lines ≡ part ∷ parts) × (begun ≡ false → flat_map between_in part ≡ [])
first_part begun [] stand = ([], [], refl, λ e. refl)
first_part begun (entries.Does w op ∷ more) stand =
    let p = first_part false more stand in (entries.Does w op ∷ p.0, p.1, ap (onto_first (entries.Does w op)) p.2, λ e. p.3 refl)
first_part begun (entries.Moves between ∷ more) stand =
    let p = first_part true more stand.1 in
    (entries.Moves between ∷ p.0, p.1, ap (onto_first (entries.Moves between)) p.2, λ e. absurd (false≢true (sym e ∙ stand.0)))
first_part begun (entries.Round ∷ more) stand = ([], slice_split is_round more, refl, λ e. refl)

-- the part's operations stand at the beginning of the first part
split_behind : (part : List Did) (rest first : List Entry) (parts : List (List Entry)) → slice_split is_round rest ≡ first ∷ parts
    → slice_split is_round (map did_entry part ++ rest) ≡ (map did_entry part ++ first) ∷ parts
split_behind [] rest first parts is = is
split_behind (did ∷ part) rest first parts is = ap (onto_first (did_entry did)) (split_behind part rest first parts is)

-- a `give` line is of the round before it
given_first : (workers : ℕ) (between : Between) (part : List Entry) (parts : List (List Entry))
    → rounds_in workers ((entries.Moves between ∷ part) ∷ parts) ≡ rounds_in workers (part ∷ parts)
given_first workers between part [] = refl
given_first workers between part (next ∷ parts) = refl

-- the rounds behind one that ends
ended_rounds : (workers : ℕ) (lines : List Entry) (give : Option Between) (part : List Entry) (parts : List (List Entry)) (rest : List Entry)
    → slice_split is_round rest ≡ part ∷ parts → flat_map between_in part ≡ []
    → rounds_in workers (lines ∷ slice_split is_round (give_entries give ++ rest))
    ≡ record { ops = ops_in workers lines; between = option_to_list give } ∷ rounds_in workers (slice_split is_round rest)
ended_rounds workers lines None part parts rest is none =
    ap (λ (all : List (List Entry)). rounds_in workers (lines ∷ all)) is
    ∙ (ap (λ (gives : List Between). record { ops = ops_in workers lines; between = gives } ∷ rounds_in workers (part ∷ parts)) none
    ∙ ap (λ (all : List (List Entry)). record { ops = ops_in workers lines; between = [] } ∷ rounds_in workers all) (sym is))
ended_rounds workers lines (Some between) part parts rest is none =
    ap (λ (all : List (List Entry)). rounds_in workers (lines ∷ onto_first (entries.Moves between) all)) is
    ∙ (ap (λ (gives : List Between). record { ops = ops_in workers lines; between = between ∷ gives } ∷ rounds_in workers ((entries.Moves between ∷ part) ∷ parts)) none
    ∙ (ap (λ (rounds : List Round). record { ops = ops_in workers lines; between = between ∷ [] } ∷ rounds) (given_first workers between part parts)
    ∙ ap (λ (all : List (List Entry)). record { ops = ops_in workers lines; between = between ∷ [] } ∷ rounds_in workers all) (sym is)))

pub with_round : (workers : ℕ) (ended : List Round) (part : List Did) (give : Option Between) (rest : List Entry) → BetweensStand false rest
    → rounds_with workers (ended ++ record { ops = ops_in workers (map did_entry part); between = option_to_list give } ∷ []) [] rest
    ≡ rounds_with workers ended part (entries_of (drawn.Round give) ++ rest)
with_round workers ended part give rest stand =
    let p = first_part false rest stand in
    let lines : List Entry = map did_entry part in
    let round : Round = record { ops = ops_in workers lines; between = option_to_list give } in
    let split = split_behind part (entries.Round ∷ (give_entries give ++ rest)) [] (slice_split is_round (give_entries give ++ rest)) refl in
    append_assoc ended (round ∷ []) (rounds_in workers (slice_split is_round rest))
    ∙ ap (λ (rounds : List Round). ended ++ rounds)
    (sym (ap (rounds_in workers) split
    ∙ (ap (λ (l : List Entry). rounds_in workers (l ∷ slice_split is_round (give_entries give ++ rest))) (append-nil lines)
    ∙ ended_rounds workers lines give p.0 p.1 rest p.2 (p.3 refl))))

-- the last round
pub with_last : (workers : ℕ) (ended : List Round) (part : List Did)
    → ended ++ record { ops = ops_in workers (map did_entry part); between = [] } ∷ [] ≡ rounds_with workers ended part []
with_last workers ended part =
    let lines : List Entry = map did_entry part in
    ap (λ (rounds : List Round). ended ++ rounds)
    (sym (ap (rounds_in workers) (split_behind part [] [] [] refl) ∙ ap (λ (l : List Entry). rounds_in workers (l ∷ [])) (append-nil lines)))
