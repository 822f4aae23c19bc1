-- What several reads take from a source, and what several writes add to a sink, one after the other.
use Rattle.std.proofs.Common.{ℕ, Option, None, Some, ◌≡◌, ◌+◌, ◌-◌, ◌≤◌, List, ◌++◌, length, take, drop, ap, subst, ◌∙◌, sym, append_assoc, arith, length-append, length-drop, drop-drop, take-append-drop}
use Rattle.std.proofs.lemmas.List.{take_rest}
use Rattle.std.proofs.Math.Seq.{take-add}
use Rattle.std.specs.Option.{option_map}
use Rattle.uma_io.specs.Source.{TakesBytes}
use Rattle.uma_io.specs.Sink.{Adds}
use Rattle.uma_io.specs.Reading.{Loses}
use Rattle.uma_io.specs.declared.reading.ReadRefused.{ReadRefused}
use Rattle.uma_io.specs.declared.reading.ReadRefused.TheVariants.{Fault, TooLong, Memory}

-- two pieces, one after the other
pub TakesBytes-trans : (before : Option (List ℕ)) (first : List ℕ) (middle : Option (List ℕ)) (second : List ℕ) (after : Option (List ℕ))
    → TakesBytes before first middle → TakesBytes middle second after → TakesBytes before (first ++ second) after
TakesBytes-trans before first middle second None p q = p ∙ ap (option_map (λ rest. first ++ rest)) q
TakesBytes-trans before first middle second (Some rest) p q =
    p ∙ ap (option_map (λ xs. first ++ xs)) q ∙ ap Some (sym (append_assoc first second rest))

-- bytes that were read before a refused read are gone too
pub Loses-more : (most : ℕ) (before : Option (List ℕ)) (bytes : List ℕ) (size : ℕ) (middle : Option (List ℕ)) (refused : ReadRefused) (after : Option (List ℕ))
    → size ≡ length bytes → size ≤ most → TakesBytes before bytes middle → Loses (most - size) middle refused after → Loses most before refused after
Loses-more most before bytes size middle Fault after is within p (piece, few, q) =
    (bytes ++ piece, omega (arith, length-append bytes piece), TakesBytes-trans _ _ _ _ _ p q)
Loses-more most before bytes size middle (TooLong _) after is within p (piece, few, q) =
    (bytes ++ piece, omega (arith, length-append bytes piece), TakesBytes-trans _ _ _ _ _ p q)
Loses-more most before bytes size middle Memory after is within p (piece, few, q) =
    (bytes ++ piece, omega (arith, length-append bytes piece), TakesBytes-trans _ _ _ _ _ p q)

-- two pieces, one after the other
pub Adds-trans : (before : Option (List ℕ)) (first : List ℕ) (middle : Option (List ℕ)) (second : List ℕ) (after : Option (List ℕ))
    → Adds before first middle → Adds middle second after → Adds before (first ++ second) after
Adds-trans None first middle second after p q = q ∙ ap (option_map (λ held. held ++ second)) p
Adds-trans (Some held) first middle second after p q =
    q ∙ ap (option_map (λ xs. xs ++ second)) p ∙ ap Some (append_assoc held first second)

-- a front of the bytes was added, and then a front of the rest
pub Adds-more : (bytes rest : List ℕ) (n k : ℕ) (before middle after : Option (List ℕ))
    → n ≤ length bytes → rest ≡ drop n bytes → k ≤ length rest → Adds before (take n bytes) middle → Adds middle (take k rest) after
    → (m : ℕ) × (m ≤ length bytes) × (take (length rest - k) (drop k rest) ≡ drop m bytes) × Adds before (take m bytes) after
Adds-more bytes rest n k before middle after within is few p q =
    let size : length rest ≡ length bytes - n = ap length is ∙ length-drop n bytes in (
      n + k,
      omega arith,
      take_rest rest k ∙ ap (drop k) is ∙ drop-drop k n bytes,
      subst (λ piece. Adds before piece after) (sym (take-add n k bytes))
          (Adds-trans before (take n bytes) middle (take k (drop n bytes)) after p (rw (← is) q)),
    )

-- what a read copied from the front of what is left, and then what is left after it
pub drop-split : (items : List ℕ) (given count : ℕ) (rest got : List ℕ) → rest ≡ drop given items → take count got ≡ take count rest
    → drop given items ≡ take count got ++ drop (given + count) items
drop-split items given count rest got is copied =
    sym (take-append-drop count (drop given items)) ∙ ap (λ front. front ++ drop count (drop given items)) (ap (take count) (sym is) ∙ sym copied)
    ∙ ap (λ back. take count got ++ back) (drop-drop count given items)
