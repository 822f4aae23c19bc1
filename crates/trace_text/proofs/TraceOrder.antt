-- A right text's rounds: the last one ends with nothing behind it, each fits the header, the version has their lines, and where the lines fit in their own order,
-- they still fit with each round's operations in order of workers.
use Rattle.std.proofs.Common.{◌≡◌, ℕ, zero, suc, ◌+◌, ◌<◌, Bool, true, false, cond, List, [], ◌∷◌, ◌++◌, map, get_or, refl, sym, ap, subst, ◌∙◌, append_assoc, append-nil, eq-eqb, ne_eqb, arith}
use Rattle.std.specs.Prelude.{All, ◌==◌}
use Rattle.std.specs.List.{flat_map, slice_split, onto_first, range_with_len}
use Rattle.std.proofs.lemmas.Bool.{false≢true}
use Rattle.std.proofs.lemmas.List.Elements.{All-nil, All-cons, All-head, All-tail, All-append, All-map}
use Rattle.std.proofs.lemmas.List.FromFn.{length-map-range_with_len}
use Rattle.trace_text.specs.declared.trace.Between.{Between}
use Rattle.trace_text.specs.declared.trace.Head.{Head}
use Rattle.trace_text.specs.declared.trace.Op.{Op}
use Rattle.trace_text.specs.declared.trace_reading.fields.Entry.{Entry}
use Rattle.trace_text.specs.declared.trace_reading.fields.Entry.TheVariants as entries
use Rattle.trace_text.specs.declared.trace.Version.{Version}
use Rattle.trace_text.specs.Grammar.{is_round, op_by, between_in, ops_in, rounds_in}
use Rattle.trace_text.specs.Lines.{Line, Does, Moves, lines_of, worker_lines}
use Rattle.trace_text.specs.Valid.{OpFits, BetweenFits, RoundFits, LastRoundEnds, LinesFit, IsKnown, IsKnownOp}
use Rattle.trace_text.proofs.LineOrder.{StillFit}
use Rattle.trace_text.proofs.TraceParts.{entry_line, FitsHead, BetweensStand, HasEntry}
use Rattle.trace_text.proofs.WorkerOrder.{lines_from, IsWith, joins_its_own}

-- ---- the last round

last_of : (workers : ℕ) (part : List Entry) (parts : List (List Entry)) → LastRoundEnds (rounds_in workers (part ∷ parts))
last_of workers part [] = refl
last_of workers part (next ∷ []) = refl
last_of workers part (next ∷ later ∷ parts) = last_of workers next (later ∷ parts)

-- there is a part
some_part : (lines : List Entry) → (part : List Entry) × (parts : List (List Entry)) × (slice_split is_round lines ≡ part ∷ parts)
some_part [] = ([], [], refl)
some_part (entries.Does w op ∷ more) = let p = some_part more in (entries.Does w op ∷ p.0, p.1, ap (onto_first (entries.Does w op)) p.2)
some_part (entries.Moves between ∷ more) = let p = some_part more in (entries.Moves between ∷ p.0, p.1, ap (onto_first (entries.Moves between)) p.2)
some_part (entries.Round ∷ more) = ([], slice_split is_round more, refl)

pub last_round : (workers : ℕ) (entries : List Entry) → LastRoundEnds (rounds_in workers (slice_split is_round entries))
last_round workers lines =
    let p = some_part lines in
    subst (λ (parts : List (List Entry)). LastRoundEnds (rounds_in workers parts)) (sym p.2) (last_of workers p.0 p.1)

-- ---- each round fits the header

fits_if : (h : Head) (b : Bool) (op : Op) → OpFits h op → All (OpFits h) (cond b (op ∷ []) [])
fits_if h true op fits = All-cons (OpFits h) op [] fits (All-nil (OpFits h))
fits_if h false op fits = All-nil (OpFits h)

ops_fit : (h : Head) (w : ℕ) (part : List Entry) → All (FitsHead h) part → All (OpFits h) (flat_map (op_by w) part)
ops_fit h w [] all = All-nil (OpFits h)
ops_fit h w (entries.Does v op ∷ part) all =
    All-append (OpFits h) (cond (v == w) (op ∷ []) []) (flat_map (op_by w) part)
    (fits_if h (v == w) op (All-head (FitsHead h) (entries.Does v op) part all).1)
    (ops_fit h w part (All-tail (FitsHead h) (entries.Does v op) part all))
ops_fit h w (entries.Moves between ∷ part) all = ops_fit h w part (All-tail (FitsHead h) (entries.Moves between) part all)
ops_fit h w (entries.Round ∷ part) all = ops_fit h w part (All-tail (FitsHead h) entries.Round part all)

betweens_fit : (h : Head) (part : List Entry) → All (FitsHead h) part → All (BetweenFits h) (flat_map between_in part)
betweens_fit h [] all = All-nil (BetweenFits h)
betweens_fit h (entries.Does v op ∷ part) all = betweens_fit h part (All-tail (FitsHead h) (entries.Does v op) part all)
betweens_fit h (entries.Moves between ∷ part) all =
    All-cons (BetweenFits h) between (flat_map between_in part) (All-head (FitsHead h) (entries.Moves between) part all)
    (betweens_fit h part (All-tail (FitsHead h) (entries.Moves between) part all))
betweens_fit h (entries.Round ∷ part) all = betweens_fit h part (All-tail (FitsHead h) entries.Round part all)

-- what holds of each line holds of each line of each part
onto_all : (P : Entry → Type 0) (x : Entry) (parts : List (List Entry)) → P x → All (All P) parts → All (All P) (onto_first x parts)
onto_all P x [] here all = All-cons (All P) (x ∷ []) [] (All-cons P x [] here (All-nil P)) (All-nil (All P))
onto_all P x (part ∷ parts) here all =
    All-cons (All P) (x ∷ part) parts (All-cons P x part here (All-head (All P) part parts all)) (All-tail (All P) part parts all)

of_parts : (P : Entry → Type 0) (lines : List Entry) → All P lines → All (All P) (slice_split is_round lines)
of_parts P [] all = All-cons (All P) [] [] (All-nil P) (All-nil (All P))
of_parts P (entries.Does w op ∷ more) all =
    onto_all P (entries.Does w op) (slice_split is_round more) (All-head P (entries.Does w op) more all) (of_parts P more (All-tail P (entries.Does w op) more all))
of_parts P (entries.Moves between ∷ more) all =
    onto_all P (entries.Moves between) (slice_split is_round more) (All-head P (entries.Moves between) more all) (of_parts P more (All-tail P (entries.Moves between) more all))
of_parts P (entries.Round ∷ more) all =
    All-cons (All P) [] (slice_split is_round more) (All-nil P) (of_parts P more (All-tail P entries.Round more all))

round_fits : (h : Head) (part : List Entry) (between : List Between) → All (FitsHead h) part → All (BetweenFits h) between
    → RoundFits h (record { ops = ops_in h.workers part; between = between })
round_fits h part between all all_between = record {
  workers = length-map-range_with_len (λ (w : ℕ). flat_map (op_by w) part) 0 h.workers;
  ops = All-map (All (OpFits h)) (λ (w : ℕ). flat_map (op_by w) part) (range_with_len 0 h.workers) (λ k d lt. ops_fit h (get_or (range_with_len 0 h.workers) k d) part all);
  between = all_between;
}

rounds_of_parts : (h : Head) (parts : List (List Entry)) → All (All (FitsHead h)) parts → All (RoundFits h) (rounds_in h.workers parts)
rounds_of_parts h [] all = All-nil (RoundFits h)
rounds_of_parts h (part ∷ []) all =
    All-cons (RoundFits h) (record { ops = ops_in h.workers part; between = [] }) []
    (round_fits h part [] (All-head (All (FitsHead h)) part [] all) (All-nil (BetweenFits h)))
    (All-nil (RoundFits h))
rounds_of_parts h (part ∷ next ∷ parts) all =
    let more : All (All (FitsHead h)) (next ∷ parts) = All-tail (All (FitsHead h)) part (next ∷ parts) all in
    All-cons (RoundFits h) (record { ops = ops_in h.workers part; between = flat_map between_in next }) (rounds_in h.workers (next ∷ parts))
    (round_fits h part (flat_map between_in next) (All-head (All (FitsHead h)) part (next ∷ parts) all) (betweens_fit h next (All-head (All (FitsHead h)) next parts more)))
    (rounds_of_parts h (next ∷ parts) more)

pub rounds_fit : (h : Head) (entries : List Entry) → All (FitsHead h) entries → All (RoundFits h) (rounds_in h.workers (slice_split is_round entries))
rounds_fit h lines all = rounds_of_parts h (slice_split is_round lines) (of_parts (FitsHead h) lines all)

-- ---- the version has each line

known_betweens : (version : Version) (part : List Entry) → All (HasEntry version) part → All (IsKnown version) (map Moves (flat_map between_in part))
known_betweens version [] all = All-nil (IsKnown version)
known_betweens version (entries.Does v op ∷ part) all = known_betweens version part (All-tail (HasEntry version) (entries.Does v op) part all)
known_betweens version (entries.Moves between ∷ part) all =
    All-cons (IsKnown version) (Moves between) (map Moves (flat_map between_in part)) (All-head (HasEntry version) (entries.Moves between) part all)
    (known_betweens version part (All-tail (HasEntry version) (entries.Moves between) part all))
known_betweens version (entries.Round ∷ part) all = known_betweens version part (All-tail (HasEntry version) entries.Round part all)

known_if : (version : Version) (b : Bool) (op : Op) → IsKnownOp version op → All (IsKnownOp version) (cond b (op ∷ []) [])
known_if version true op is = All-cons (IsKnownOp version) op [] is (All-nil (IsKnownOp version))
known_if version false op is = All-nil (IsKnownOp version)

known_by : (version : Version) (w : ℕ) (part : List Entry) → All (HasEntry version) part → All (IsKnownOp version) (flat_map (op_by w) part)
known_by version w [] all = All-nil (IsKnownOp version)
known_by version w (entries.Does v op ∷ part) all =
    All-append (IsKnownOp version) (cond (v == w) (op ∷ []) []) (flat_map (op_by w) part)
    (known_if version (v == w) op (All-head (HasEntry version) (entries.Does v op) part all))
    (known_by version w part (All-tail (HasEntry version) (entries.Does v op) part all))
known_by version w (entries.Moves between ∷ part) all = known_by version w part (All-tail (HasEntry version) (entries.Moves between) part all)
known_by version w (entries.Round ∷ part) all = known_by version w part (All-tail (HasEntry version) entries.Round part all)

known_ops : (version : Version) (w : ℕ) (ops : List Op) → All (IsKnownOp version) ops → All (IsKnown version) (map (Does w) ops)
known_ops version w [] all = All-nil (IsKnown version)
known_ops version w (op ∷ ops) all =
    All-cons (IsKnown version) (Does w op) (map (Does w) ops) (All-head (IsKnownOp version) op ops all) (known_ops version w ops (All-tail (IsKnownOp version) op ops all))

known_workers : (version : Version) (part : List Entry) → All (HasEntry version) part → (k n : ℕ) → All (IsKnown version) (lines_from k n (λ w. flat_map (op_by w) part))
known_workers version part all k zero = All-nil (IsKnown version)
known_workers version part all k (suc n) =
    All-append (IsKnown version) (map (Does k) (flat_map (op_by k) part)) (lines_from (k + 1) n (λ w. flat_map (op_by w) part))
    (known_ops version k (flat_map (op_by k) part) (known_by version k part all)) (known_workers version part all (k + 1) n)

known_parts : (version : Version) (workers : ℕ) (parts : List (List Entry)) → All (All (HasEntry version)) parts → All (IsKnown version) (lines_of (rounds_in workers parts))
known_parts version workers [] all = All-nil (IsKnown version)
known_parts version workers (part ∷ []) all =
    let own : List Line = worker_lines 0 (ops_in workers part) in
    let own_known = known_workers version part (All-head (All (HasEntry version)) part [] all) 0 workers in
    All-append (IsKnown version) (own ++ []) [] (All-append (IsKnown version) own [] own_known (All-nil (IsKnown version))) (All-nil (IsKnown version))
known_parts version workers (part ∷ next ∷ parts) all =
    let more : All (All (HasEntry version)) (next ∷ parts) = All-tail (All (HasEntry version)) part (next ∷ parts) all in
    let own : List Line = worker_lines 0 (ops_in workers part) in
    let betweens : List Line = map Moves (flat_map between_in next) in
    All-append (IsKnown version) (own ++ betweens) (lines_of (rounds_in workers (next ∷ parts)))
    (All-append (IsKnown version) own betweens (known_workers version part (All-head (All (HasEntry version)) part (next ∷ parts) all) 0 workers) (known_betweens version next (All-head (All (HasEntry version)) next parts more)))
    (known_parts version workers (next ∷ parts) more)

pub lines_known : (version : Version) (workers : ℕ) (entries : List Entry) → All (HasEntry version) entries → All (IsKnown version) (lines_of (rounds_in workers (slice_split is_round entries)))
lines_known version workers lines all = known_parts version workers (slice_split is_round lines) (of_parts (HasEntry version) lines all)

-- ---- the order of workers

-- the operations of a part, in order of workers
abbrev grouped : ℕ → List Entry → List Line
grouped workers part = lines_from 0 workers (λ w. flat_map (op_by w) part)

nobody_does : (k n : ℕ) → lines_from k n (λ w. flat_map (op_by w) []) ≡ []
nobody_does k zero = refl
nobody_does k (suc n) = nobody_does (k + 1) n

-- the lines of these parts: of each those that stand between two rounds, and then its operations in order of workers
abbrev ordered : ℕ → List (List Entry) → List Line
ordered workers [] = []
ordered workers (part ∷ parts) = map Moves (flat_map between_in part) ++ (grouped workers part ++ ordered workers parts)

does_more : (w : ℕ) (op : Op) (part : List Entry) → IsWith w op (λ v. flat_map (op_by v) part) (λ v. flat_map (op_by v) (entries.Does w op ∷ part))
does_more w op part = record {
  own = rw (eq-eqb w w refl) refl;
  others = λ v ne. rw (ne_eqb w v (λ e. ne (sym e))) refl;
}

-- the lines of the first of these parts that stand between two rounds
abbrev first_betweens : List (List Entry) → List Between
first_betweens [] = []
first_betweens (part ∷ parts) = flat_map between_in part

-- an operation before the first part, which has no lines between two rounds
does_first : (workers w : ℕ) (op : Op) (parts : List (List Entry)) → w < workers → first_betweens parts ≡ []
    → StillFit (Does w op ∷ ordered workers parts) (ordered workers (onto_first (entries.Does w op) parts))
does_first workers w op [] lt none before fits =
    let P : List Line → Type 0 = λ lines. LinesFit before (Does w op ∷ (lines ++ [])) in
    joins_its_own (λ v. flat_map (op_by v) []) (λ v. flat_map (op_by v) (entries.Does w op ∷ [])) w op [] (does_more w op []) 0 workers (omega arith) (omega arith) before
    (subst P (sym (nobody_does 0 workers)) fits)
does_first workers w op (part ∷ parts) lt none before fits =
    let P : List Between → Type 0 = λ betweens. LinesFit before (Does w op ∷ (map Moves betweens ++ (grouped workers part ++ ordered workers parts))) in
    let Q : List Between → Type 0 = λ betweens. LinesFit before (map Moves betweens ++ (grouped workers (entries.Does w op ∷ part) ++ ordered workers parts)) in
    subst Q (sym none)
    (joins_its_own (λ v. flat_map (op_by v) part) (λ v. flat_map (op_by v) (entries.Does w op ∷ part)) w op (ordered workers parts) (does_more w op part) 0 workers (omega arith) (omega arith) before
    (subst P none fits))

-- a line between two rounds before the first part
betweens_first : (workers : ℕ) (between : Between) (parts : List (List Entry))
    → StillFit (Moves between ∷ ordered workers parts) (ordered workers (onto_first (entries.Moves between) parts))
betweens_first workers between [] before fits =
    let P : List Line → Type 0 = λ lines. LinesFit before (Moves between ∷ (lines ++ [])) in
    subst P (sym (nobody_does 0 workers)) fits
betweens_first workers between (part ∷ parts) before fits = fits

-- an operation adds none to the first part
still_none : (w : ℕ) (op : Op) (parts : List (List Entry)) → first_betweens (onto_first (entries.Does w op) parts) ≡ first_betweens parts
still_none w op [] = refl
still_none w op (part ∷ parts) = refl

no_betweens : (lines : List Entry) → BetweensStand false lines → first_betweens (slice_split is_round lines) ≡ []
no_betweens [] stand = refl
no_betweens (entries.Does w op ∷ more) stand = still_none w op (slice_split is_round more) ∙ no_betweens more stand
no_betweens (entries.Moves between ∷ more) stand = absurd (false≢true stand.0)
no_betweens (entries.Round ∷ more) stand = refl

fit_in_order : (h : Head) (begun : Bool) (lines : List Entry) → All (FitsHead h) lines → BetweensStand begun lines
    → StillFit (flat_map entry_line lines) (ordered h.workers (slice_split is_round lines))
fit_in_order h begun [] all stand before fits =
    let P : List Line → Type 0 = λ lines. LinesFit before (lines ++ []) in
    subst P (sym (nobody_does 0 h.workers)) tt
fit_in_order h begun (entries.Does w op ∷ more) all stand before fits =
    does_first h.workers w op (slice_split is_round more) (All-head (FitsHead h) (entries.Does w op) more all).0 (no_betweens more stand) before
    (fits.0, fit_in_order h false more (All-tail (FitsHead h) (entries.Does w op) more all) stand (Does w op ∷ before) fits.1)
fit_in_order h begun (entries.Moves between ∷ more) all stand before fits =
    betweens_first h.workers between (slice_split is_round more) before
    (fits.0, fit_in_order h true more (All-tail (FitsHead h) (entries.Moves between) more all) stand.1 (Moves between ∷ before) fits.1)
fit_in_order h begun (entries.Round ∷ more) all stand before fits =
    let P : List Line → Type 0 = λ lines. LinesFit before (lines ++ ordered h.workers (slice_split is_round more)) in
    subst P (sym (nobody_does 0 h.workers)) (fit_in_order h true more (All-tail (FitsHead h) entries.Round more all) stand before fits)

-- the lines of the rounds are those of the parts
lines_of_rounds : (workers : ℕ) (part : List Entry) (parts : List (List Entry)) → lines_of (rounds_in workers (part ∷ parts)) ≡ grouped workers part ++ ordered workers parts
lines_of_rounds workers part [] = ap (λ (lines : List Line). lines ++ []) (append-nil (grouped workers part))
lines_of_rounds workers part (next ∷ parts) =
    append_assoc (grouped workers part) (map Moves (flat_map between_in next)) (lines_of (rounds_in workers (next ∷ parts)))
    ∙ ap (λ (lines : List Line). grouped workers part ++ (map Moves (flat_map between_in next) ++ lines)) (lines_of_rounds workers next parts)

lines_in_order : (workers : ℕ) (parts : List (List Entry)) → first_betweens parts ≡ [] → ordered workers parts ≡ lines_of (rounds_in workers parts)
lines_in_order workers [] none = refl
lines_in_order workers (part ∷ parts) none =
    ap (λ (betweens : List Between). map Moves betweens ++ (grouped workers part ++ ordered workers parts)) none ∙ sym (lines_of_rounds workers part parts)

pub lines_still_fit : (h : Head) (entries : List Entry) → All (FitsHead h) entries → BetweensStand false entries → LinesFit [] (flat_map entry_line entries)
    → LinesFit [] (lines_of (rounds_in h.workers (slice_split is_round entries)))
lines_still_fit h lines all stand fits =
    let P : List Line → Type 0 = λ lines. LinesFit [] lines in
    subst P (lines_in_order h.workers (slice_split is_round lines) (no_betweens lines stand)) (fit_in_order h false lines all stand [] fits)
