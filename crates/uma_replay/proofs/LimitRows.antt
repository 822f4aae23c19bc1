-- The definitions of limits at small traces.
use Rattle.std.proofs.Common.{◌≡◌, ◌<◌, ℕ, zero, suc, List, [], ◌∷◌, false, length, None, refl, arith, subst}
use Rattle.std.specs.Prelude.{Contains}
use Rattle.trace_text.specs.declared.trace.Between.TheVariants.{Give, SetMax}
use Rattle.trace_text.specs.declared.trace.NamesHead.{NamesHead}
use Rattle.trace_text.specs.declared.trace.ZoneHead.{ZoneHead}
use Rattle.trace_text.specs.declared.trace.ZoneKind.TheVariants.{Plain}
use Rattle.trace_text.specs.declared.trace.Op.TheVariants.{Alloc, Free}
use Rattle.trace_text.specs.declared.trace.Trace.{Trace}
use Rattle.trace_text.specs.Lines.{Line, Does, Moves}
use Rattle.trace_text.specs.Valid.{IsValid}
use Rattle.zone_stats.specs.declared.refusal.Refusal.TheVariants.{AtLimit}
use Rattle.uma_replay.specs.Counting.{entry_zone}
use Rattle.uma_replay.specs.Limits.{last_limit, limits_had}
use Rattle.uma_replay.specs.Report.{RefusalFits}
use Rattle.uma_replay.proofs.LimitLines.{unnamed_had}

-- `zone box 256 4 4 4 0 plain`, whose slots hold items when `setmax box 2` stands between two rounds
box : ZoneHead
box = record { name = 98 ∷ 111 ∷ 120 ∷ []; parent = None; size = 256; slabs = 4; bucket = 4; limit = 4; reserve = 0; kind = Plain }

lowered : List Line
lowered = Does 0 (Alloc 0 3 0 false) ∷ Moves (SetMax 0 2) ∷ Does 0 (Alloc 0 4 0 false) ∷ Does 0 (Free 0) ∷ []

-- the report's line of it shows 2
lowered-last : last_limit lowered 0 box ≡ 2
unfolding lowered box
lowered-last = refl

-- its kept refusal `AtLimit { out: 4, limit: 2 }` is by a limit that it had
lowered-had : Contains (limits_had lowered 0 box) 2
unfolding lowered box
lowered-had = (1, omega arith, refl)

-- a line that names another zone changes nothing
lowered-other : last_limit lowered 1 box ≡ 4
unfolding lowered box
lowered-other = refl

-- of two lines the last one counts, and lines that move items count for nothing
raised : List Line
raised = Moves (SetMax 0 2) ∷ Moves (SetMax 0 9) ∷ Moves (SetMax 1 5) ∷ Moves (Give 0 3 1 0) ∷ []

raised-last : last_limit raised 0 box ≡ 9
unfolding raised box
raised-last = refl

raised-had : limits_had raised 0 box ≡ 4 ∷ 2 ∷ 9 ∷ []
unfolding raised box
raised-had = refl

none_of : (limit : ℕ) → Contains (0 ∷ []) limit → 0 < limit → ⊥
none_of limit (zero, below, is) some = omega arith
none_of limit (suc k, below, is) some = omega arith

-- no refusal by a limit fits the zone of the names, which no line names
no_limit_of_names : (t : Trace) (w out limit : ℕ) (line : NamesHead) → IsValid t → RefusalFits t w (length t.head.zones) (entry_zone line) (AtLimit out limit) → ⊥
no_limit_of_names t w out limit line valid fits =
    let P : List ℕ → Type 0 = λ limits. Contains limits limit in
    none_of limit (subst P (unnamed_had t (entry_zone line) valid) fits.2) fits.1
