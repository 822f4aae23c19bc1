-- The rounds of the parts of a text, one more at a time.
use Rattle.std.proofs.Common.{◌≡◌, ℕ, List, [], ◌∷◌, ◌++◌, Vec, sym, ap, ◌∙◌, append_assoc}
use Rattle.std.specs.declared.alloc.Global.{Global}
use Rattle.trace_text.specs.declared.trace.Between.{Between}
use Rattle.trace_text.specs.declared.trace.Op.{Op}
use Rattle.trace_text.specs.declared.trace.Round.{Round}
use Rattle.trace_text.specs.declared.trace_reading.rounds.PartSoFar.{PartSoFar}
use Rattle.trace_text.specs.Parts.{front_of, lists_for, rounds_from}

abbrev pub round_with : List (List Op) → List Between → Round
round_with ops between = record { ops = ops; between = between }

-- The rounds so far, and those that are left, are all rounds. So it is with one more, which is the first of those that were left.
pub one_round_more : (workers : ℕ) (lists : List (Vec Op Global)) (left rest : List PartSoFar) (next : PartSoFar) (rounds all : List Round) (round : Round) → left ≡ next ∷ rest
    → rounds ++ rounds_from workers lists left ≡ all → round.ops ≡ lists_for workers lists → round.between ≡ front_of next → (rounds ++ round ∷ []) ++ rounds_from workers next.ops.items rest ≡ all
one_round_more workers lists left rest next rounds all round left_is so_far ops between =
    let behind : List Round = rounds_from workers next.ops.items rest in
    append_assoc rounds (round ∷ []) behind
    ∙ ap (λ (o : List (List Op)). rounds ++ round_with o round.between ∷ behind) ops
    ∙ ap (λ (b : List Between). rounds ++ round_with (lists_for workers lists) b ∷ behind) between
    ∙ ap (λ (l : List PartSoFar). rounds ++ rounds_from workers lists l) (sym left_is)
    ∙ so_far

-- nothing stands behind the last one
pub last_round_more : (workers : ℕ) (lists : List (Vec Op Global)) (left : List PartSoFar) (rounds all : List Round) (round : Round) → left ≡ [] → rounds ++ rounds_from workers lists left ≡ all
    → round.ops ≡ lists_for workers lists → round.between ≡ [] → rounds ++ round ∷ [] ≡ all
last_round_more workers lists left rounds all round left_is so_far ops between =
    ap (λ (o : List (List Op)). rounds ++ round_with o round.between ∷ []) ops
    ∙ ap (λ (b : List Between). rounds ++ round_with (lists_for workers lists) b ∷ []) between
    ∙ ap (λ (l : List PartSoFar). rounds ++ rounds_from workers lists l) (sym left_is)
    ∙ so_far
