-- The tries to seal, one bucket after another.
use Rattle.std.proofs.Common.{◌≡◌, ◌<◌, ◌≤◌, ◌+◌, ℕ, List, [], ◌∷◌, ◌++◌, length, drop, get_or, inl, inr, refl, sym, ap, ◌∙◌, subst, append_assoc}
use Rattle.std.proofs.lemmas.List.{drop_more, drop_all, append-nil, length_push}
use Rattle.smr_clock.specs.declared.clock.Setup.{Setup}
use Rattle.smr_clock.specs.declared.polls.AdvanceRefused.{AdvanceRefused}
use Rattle.smr_clock.specs.declared.view.View.{View}
use Rattle.smr_clock.specs.Advances.{AdvanceIsRefused}
use Rattle.smr_clock.specs.Belongs.{TableId}
use Rattle.uma_bucket.specs.declared.freed.Loose.{Loose}
use Rattle.uma_bucket.specs.declared.freed.Sealed.{Sealed}
use Rattle.uma_bucket.specs.Sealed.{Seals, IsSealedAt}
use Rattle.uma_domain.specs.Tries.{Tries, SealsEach}
use Rattle.uma_domain.proofs.Places.{same_head}

module _ {T : Type 0} {g : _} where
  -- the first bucket of the loose list is the next
  next_loose : (loose : List (Loose T g)) (at : ℕ) (now stay rest : List (Loose T g)) (b : Loose T g) → at < length loose → now ≡ drop at loose ++ stay → now ≡ b ∷ rest → (drop at loose ≡ b ∷ drop (at + 1) loose) × (rest ≡ drop (at + 1) loose ++ stay)
  next_loose loose at now stay rest b within turned popped =
      let more : drop at loose ≡ get_or loose at b ∷ drop (at + 1) loose = drop_more loose at b within in
      let whole : b ∷ rest ≡ get_or loose at b ∷ (drop (at + 1) loose ++ stay) = sym popped ∙ turned ∙ ap (λ (xs : List (Loose T g)). xs ++ stay) more in
      let same = same_head b (get_or loose at b) rest (drop (at + 1) loose ++ stay) whole in
      (more ∙ ap (λ (x : Loose T g). x ∷ drop (at + 1) loose) (sym same.0), same.1)

module _ {T H P : Type 0} {g h : _} where
  -- Tries that have come to a place: the loose list has the buckets from there on, and behind them those that stay. What the tries from there come to makes them whole.
  pub record Trying (copied : P → P) (clock : TableId × Setup) (v : View P) (loose : List (Loose T g)) (sealed : List (Sealed T H P g h)) (at count : ℕ) (loose_now : List (Loose T g)) (sealed_now : List (Sealed T H P g h)) (now : View P) : Type 0 where
    pub stay : List (Loose T g)
    pub new : List (Sealed T H P g h)
    pub turned : loose_now ≡ drop at loose ++ stay
    pub newest : sealed_now ≡ sealed ++ new
    pub counted : count ≡ length new
    pub so_far : (stays : List (Loose T g)) (seals : List (Sealed T H P g h)) (v' : View P) → Tries copied clock now (drop at loose) stays seals v' → Tries copied clock v loose (stay ++ stays) (new ++ seals) v'

  pub tries_begin : (copied : P → P) (clock : TableId × Setup) (v : View P) (loose : List (Loose T g)) (sealed : List (Sealed T H P g h)) → Trying copied clock v loose sealed 0 0 loose sealed v
  tries_begin copied clock v loose sealed = record { stay = []; new = []; turned = sym (append-nil loose); newest = sym (append-nil sealed); counted = refl; so_far = λ stays seals v' tries. tries }

  pub tries_end : (copied : P → P) (clock : TableId × Setup) (v : View P) (loose : List (Loose T g)) (sealed : List (Sealed T H P g h)) (at count : ℕ) (loose_now : List (Loose T g)) (sealed_now : List (Sealed T H P g h)) (now : View P)
      → length loose ≤ at → Trying copied clock v loose sealed at count loose_now sealed_now now → SealsEach copied clock v loose sealed count loose_now sealed_now now
  tries_end copied clock v loose sealed at count loose_now sealed_now now past so =
      let none : drop at loose ≡ [] = drop_all at loose past in
      let turned : loose_now ≡ so.stay = so.turned ∙ ap (λ (xs : List (Loose T g)). xs ++ so.stay) none in
      let here : Tries {T = T} {H = H} {P = P} {g = g} {h = h} copied clock now (drop at loose) [] [] now = subst (λ (xs : List (Loose T g)). Tries {T = T} {H = H} {P = P} {g = g} {h = h} copied clock now xs [] [] now) (sym none) (refl, refl, refl) in
      let whole = so.so_far [] [] now here in
      record {
        new = so.new;
        tries = subst (λ (xs : List (Loose T g)). Tries copied clock v loose xs so.new now) (append-nil so.stay ∙ sym turned) (subst (λ (ss : List (Sealed T H P g h)). Tries copied clock v loose (so.stay ++ []) ss now) (append-nil so.new) whole);
        newest = so.newest;
        counted = so.counted;
      }

  pub try_seals : (copied : P → P) (clock : TableId × Setup) (v : View P) (loose : List (Loose T g)) (sealed : List (Sealed T H P g h)) (at count : ℕ) (loose_now : List (Loose T g)) (sealed_now : List (Sealed T H P g h)) (now : View P)
      (b : Loose T g) (rest : List (Loose T g)) (s : Sealed T H P g h) (next : View P) (sealed_then : List (Sealed T H P g h)) (count_then : ℕ)
      → at < length loose → loose_now ≡ b ∷ rest → Seals copied now b s next → IsSealedAt clock s → sealed_then ≡ sealed_now ++ s ∷ [] → count_then ≡ count + 1
      → Trying copied clock v loose sealed at count loose_now sealed_now now → Trying copied clock v loose sealed (at + 1) count_then rest sealed_then next
  try_seals copied clock v loose sealed at count loose_now sealed_now now b rest s next sealed_then count_then within popped seals here pushed more so =
      let n = next_loose loose at loose_now so.stay rest b within so.turned popped in
      record {
        stay = so.stay;
        new = so.new ++ s ∷ [];
        turned = n.1;
        newest = pushed ∙ ap (λ (xs : List (Sealed T H P g h)). xs ++ s ∷ []) so.newest ∙ append_assoc sealed so.new (s ∷ []);
        counted = more ∙ ap (λ (k : ℕ). k + 1) so.counted ∙ sym (length_push so.new s);
        so_far = λ stays later v' tries.
            let from : Tries copied clock now (drop at loose) stays (s ∷ later) v' = subst (λ (xs : List (Loose T g)). Tries copied clock now xs stays (s ∷ later) v') (sym n.0) (next, inl (s, later, refl, seals, here, tries)) in
            subst (λ (ss : List (Sealed T H P g h)). Tries copied clock v loose (so.stay ++ stays) ss v') (sym (append_assoc so.new (s ∷ []) later)) (so.so_far stays (s ∷ later) v' from);
      }

  pub try_refused : (copied : P → P) (clock : TableId × Setup) (v : View P) (loose : List (Loose T g)) (sealed : List (Sealed T H P g h)) (at count : ℕ) (loose_now : List (Loose T g)) (sealed_now : List (Sealed T H P g h)) (now : View P)
      (b : Loose T g) (rest : List (Loose T g)) (refused : AdvanceRefused) (next : View P) (loose_then : List (Loose T g)) (sealed_then : List (Sealed T H P g h)) (count_then : ℕ)
      → at < length loose → loose_now ≡ b ∷ rest → AdvanceIsRefused now refused next → loose_then ≡ rest ++ b ∷ [] → sealed_then ≡ sealed_now → count_then ≡ count
      → Trying copied clock v loose sealed at count loose_now sealed_now now → Trying copied clock v loose sealed (at + 1) count_then loose_then sealed_then next
  try_refused copied clock v loose sealed at count loose_now sealed_now now b rest refused next loose_then sealed_then count_then within popped refuses pushed same_sealed same_count so =
      let n = next_loose loose at loose_now so.stay rest b within so.turned popped in
      record {
        stay = so.stay ++ b ∷ [];
        new = so.new;
        turned = pushed ∙ ap (λ (xs : List (Loose T g)). xs ++ b ∷ []) n.1 ∙ append_assoc (drop (at + 1) loose) so.stay (b ∷ []);
        newest = same_sealed ∙ so.newest;
        counted = same_count ∙ so.counted;
        so_far = λ stays more v' tries.
            let from : Tries copied clock now (drop at loose) (b ∷ stays) more v' = subst (λ (xs : List (Loose T g)). Tries copied clock now xs (b ∷ stays) more v') (sym n.0) (next, inr (refused, stays, refl, refuses, tries)) in
            subst (λ (xs : List (Loose T g)). Tries copied clock v loose xs (so.new ++ more) v') (sym (append_assoc so.stay (b ∷ []) stays)) (so.so_far (b ∷ stays) more v' from);
      }
