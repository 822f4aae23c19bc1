-- The rounds so far and the lines that are left are those of the whole trace.
use Rattle.std.proofs.Common.{◌≡◌, ◌+◌, ◌-◌, ◌<◌, ◌≤◌, ℕ, suc, List, [], ◌++◌, length, replicate, false, refl, sym, ap, ◌∙◌, arith}
use Rattle.std.specs.List.{slice_split}
use Rattle.std.proofs.lemmas.List.{length-replicate}
use Rattle.trace_text.specs.declared.trace.Round.{Round}
use Rattle.trace_text.specs.declared.trace_reading.fields.Entry.{Entry}
use Rattle.trace_text.specs.Grammar.{is_round, rounds_in}
use Rattle.trace_text.proofs.TraceParts.{BetweensStand}
use Rattle.trace_gen.specs.declared.generator.Did.{Did}
use Rattle.trace_gen.specs.declared.generator.Drawn.{Drawn}
use Rattle.trace_gen.specs.Generator.{State, begun, drawn_lines, entries_of, step}
use Rattle.trace_gen.specs.Rounds.{rounds_with}
use Rattle.trace_gen.proofs.DrawnLines.{lines_more, lines_stand}

abbrev pub all_rounds : ℕ → ℕ → ℕ → List Round
all_rounds seed workers ops = rounds_in workers (slice_split is_round (drawn_lines workers ops (begun seed workers)))

-- so many steps are done
pub record Makes (seed workers ops done : ℕ) (s : State) (ended : List Round) (part : List Did) : Type 0 where
  pub whole : length s.slots ≡ workers
  pub binds : s.binds ≤ 3000
  pub rounds : rounds_with workers ended part (drawn_lines workers (ops - done) s) ≡ all_rounds seed workers ops

pub makes_none : (seed workers ops : ℕ) (s : State) (ended : List Round) (part : List Did) → s ≡ begun seed workers → ended ≡ [] → part ≡ [] → Makes seed workers ops 0 s ended part
makes_none seed workers ops s ended part is none nothing = record {
  whole = ap (λ (t : State). length t.slots) is ∙ length-replicate workers (replicate 256 false);
  binds = rw is (omega arith);
  rounds =
      let left : ops - 0 ≡ ops = omega arith in
      rw (none, nothing, is, left) refl;
}

pub makes_next : (seed workers ops done : ℕ) (s t : State) (d : Drawn) (ended next_ended : List Round) (part next_part : List Did)
    → Makes seed workers ops done s ended part → done < ops → (d, t) ≡ step workers s → length t.slots ≡ workers → t.binds ≤ 3000
    → ((rest : List Entry) → BetweensStand false rest → rounds_with workers next_ended next_part rest ≡ rounds_with workers ended part (entries_of d ++ rest))
    → Makes seed workers ops (done + 1) t next_ended next_part
makes_next seed workers ops done s t d ended next_ended part next_part makes lt stepped whole binds pushed = record {
  whole = whole;
  binds = binds;
  rounds =
      let left : ops - done ≡ suc (ops - (done + 1)) = omega arith in
      pushed (drawn_lines workers (ops - (done + 1)) t) (lines_stand workers (ops - (done + 1)) t)
      ∙ (ap (rounds_with workers ended part) (sym (lines_more workers (ops - done) (ops - (done + 1)) s t d left stepped)) ∙ makes.rounds);
}

pub makes_all : (seed workers ops done : ℕ) (s : State) (ended : List Round) (part : List Did) → Makes seed workers ops done s ended part → ops ≤ done
    → rounds_with workers ended part [] ≡ all_rounds seed workers ops
makes_all seed workers ops done s ended part makes le =
    let left : ops - done ≡ 0 = omega arith in
    ap (λ (n : ℕ). rounds_with workers ended part (drawn_lines workers n s)) (sym left) ∙ makes.rounds
