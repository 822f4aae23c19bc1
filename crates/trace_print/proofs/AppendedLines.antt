-- What functions append to a text, field after field and line after line, against the lines that it is to have.
use Rattle.std.proofs.Common.{◌≡◌, ℕ, List, [], ◌∷◌, ◌++◌, map, codes, ap, ◌∙◌, append_assoc, decimal}
use Rattle.std.specs.List.{flat_map}
use Rattle.std.proofs.lemmas.Grind.{flat_map-append}
use Rattle.std.proofs.lemmas.List.{append-nil}
use Rattle.trace_text.specs.declared.trace.Head.{Head}
use Rattle.trace_text.specs.declared.trace.Trace.{Trace}
use Rattle.trace_lines.specs.CanonicalLine.{line}
use Rattle.trace_lines.proofs.AppendedLines.{spaced, joined}
use Rattle.trace_print.specs.CanonicalText.{canonical_text, clock_text, detail_text, first_line, head_text, names_text, rounds_text, zone_line}

-- what a line of a word, a worker, a name and numbers appends
pub named_appended : (old word : List ℕ) (worker : ℕ) (name numbers : List ℕ)
    → ((((old ++ word) ++ (32 ∷ decimal worker ++ [])) ++ 32 ∷ name) ++ flat_map (λ (n : ℕ). 32 ∷ decimal n) numbers) ++ 10 ∷ []
    ≡ old ++ line (word ∷ decimal worker ∷ name ∷ map decimal numbers)
named_appended old word worker name numbers = rw (joined name numbers) (simp (append_assoc, append-nil))

-- what a line of a word, a name and a number appends
pub limit_appended : (old word name : List ℕ) (limit : ℕ)
    → (((old ++ word) ++ 32 ∷ name) ++ (32 ∷ decimal limit ++ [])) ++ 10 ∷ [] ≡ old ++ line (word ∷ name ∷ decimal limit ∷ [])
limit_appended old word name limit = simp (append_assoc, append-nil)

-- a line appended part after part
parts_of_line : (old a b c d e f end : List ℕ)
    → ((((((old ++ a) ++ b) ++ c) ++ d) ++ e) ++ f) ++ end ≡ old ++ ((a ++ (b ++ (c ++ (d ++ (e ++ f))))) ++ end)
parts_of_line old a b c d e f end = simp append_assoc

-- what the line of a request appends
pub request_appended : (old word : List ℕ) (worker : ℕ) (name : List ℕ) (slot : ℕ) (arg reserve : List (List ℕ))
    → ((((((old ++ word) ++ (32 ∷ decimal worker ++ [])) ++ 32 ∷ name) ++ (32 ∷ decimal slot ++ []))
    ++ flat_map (λ (field : List ℕ). 32 ∷ field) arg) ++ flat_map (λ (field : List ℕ). 32 ∷ field) reserve) ++ 10 ∷ []
    ≡ old ++ line (word ∷ decimal worker ∷ name ∷ decimal slot ∷ (arg ++ reserve))
request_appended old word worker name slot arg reserve =
    rw
    (spaced (decimal slot) (arg ++ reserve), flat_map-append (λ (field : List ℕ). 32 ∷ field) arg reserve, append-nil (decimal worker), append-nil (decimal slot))
    (parts_of_line old word (32 ∷ decimal worker) (32 ∷ name) (32 ∷ decimal slot)
    (flat_map (λ (field : List ℕ). 32 ∷ field) arg) (flat_map (λ (field : List ℕ). 32 ∷ field) reserve) (10 ∷ []))

-- lines appended one after another
lines_in_order : (old a b c d e f : List ℕ)
    → ((((old ++ (a ++ b)) ++ c) ++ d) ++ e) ++ f ≡ old ++ (a ++ (b ++ (c ++ (d ++ (e ++ f)))))
lines_in_order old a b c d e f = simp append_assoc

-- what the header lines append
pub head_appended : (old : List ℕ) (h : Head)
    → ((((old ++ (line (codes "workers" ∷ decimal h.workers ∷ [])
    ++ line (codes "domains" ∷ decimal h.domains ∷ []))) ++ clock_text h.clock) ++ detail_text h.detail)
    ++ flat_map (zone_line h.zones) h.zones) ++ names_text h.names
    ≡ old ++ head_text h
head_appended old h =
    lines_in_order old (line (codes "workers" ∷ decimal h.workers ∷ []))
    (line (codes "domains" ∷ decimal h.domains ∷ [])) (clock_text h.clock) (detail_text h.detail)
    (flat_map (zone_line h.zones) h.zones) (names_text h.names)

-- the first line, then the other header lines, then the rounds, then the last line
pub whole_text : (t : Trace) (first head rounds whole : List ℕ)
    → first ≡ first_line t.version
    → head ≡ first ++ head_text t.head
    → rounds ≡ head ++ rounds_text t.head.zones t.rounds
    → whole ≡ rounds ++ line (codes "end" ∷ [])
    → whole ≡ canonical_text t
whole_text t first head rounds whole o p q r =
    let last : List ℕ = line (codes "end" ∷ []) in
    let more : List ℕ = rounds_text t.head.zones t.rounds ++ last in
    r ∙ ap (λ (l : List ℕ). l ++ last) q
    ∙ append_assoc head (rounds_text t.head.zones t.rounds) last
    ∙ ap (λ (l : List ℕ). l ++ more) p
    ∙ append_assoc first (head_text t.head) more
    ∙ ap (λ (l : List ℕ). l ++ (head_text t.head ++ more)) o
