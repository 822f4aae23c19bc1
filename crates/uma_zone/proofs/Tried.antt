-- Tries to seal lose no bucket.
use Rattle.std.proofs.Common.{◌≡◌, ◌+◌, List, [], ◌∷◌, All, map, sum_by, inl, inr, sym, ap, ◌∙◌, subst, arith}
use Rattle.std.proofs.lemmas.List.Elements.{All-nil, All-cons}
use Rattle.std.proofs.lemmas.List.Sums.{sum_by-cons}
use Rattle.smr_clock.specs.declared.host.Host.{Ghosts as HostGhosts}
use Rattle.uma_life.specs.declared.hooks.Body.{Ghosts}
use Rattle.uma_bucket.specs.declared.freed.Loose.{Loose}
use Rattle.uma_bucket.specs.declared.freed.Sealed.{Sealed}
use Rattle.uma_bucket.specs.Sealed.{Seals, sealed_bucket}
use Rattle.uma_domain.specs.Listed.{loose_len, sealed_len}
use Rattle.uma_zone.specs.TriesLaw.{IsSealedThen, TriesLoseNone}

module _ {T H P : Type 0} {g : Ghosts T} {h : HostGhosts H P} where
  pub tries_lose_none : TriesLoseNone T H P g h
  tries_lose_none copied clock v v' [] stay sealed tries =
      let Then = IsSealedThen copied clock in
      let none : sum_by loose_len stay ≡ 0 = ap (sum_by loose_len) tries.0 in
      let none' : sum_by sealed_len sealed ≡ 0 = ap (sum_by sealed_len) tries.1 in
      record {
        merged = (tries.0, ap (map sealed_bucket) tries.1);
        items = omega (arith, none, none');
        then = subst (λ (l : List (Sealed T H P g h)). All Then l) (sym tries.1) (All-nil Then);
      }
  tries_lose_none copied clock v v' (b ∷ bs) stay sealed (next, inl (s, rest, split, seals, at, tries)) =
      let Then = IsSealedThen copied clock in
      let more = tries_lose_none copied clock next v' bs stay rest tries in
      let same : sealed_bucket s ≡ b = seals.bucket in
      let len : sealed_len s ≡ loose_len b = ap loose_len same in
      let sum : sum_by sealed_len sealed ≡ sealed_len s + sum_by sealed_len rest = ap (sum_by sealed_len) split ∙ sum_by-cons sealed_len s rest in
      let was = sum_by-cons loose_len b bs in
      let first : Then s = record { before = v; after = next; seals = subst (λ (l : Loose T g). Seals copied v l s next) (sym same) seals; of_clock = at } in
      record {
        merged = inr (map sealed_bucket rest, ap (map sealed_bucket) split ∙ ap (λ (l : Loose T g). l ∷ map sealed_bucket rest) same, more.merged);
        items = omega (arith, more.items, len, sum, was);
        then = subst (λ (l : List (Sealed T H P g h)). All Then l) (sym split) (All-cons Then s rest first more.then);
      }
  tries_lose_none copied clock v v' (b ∷ bs) stay sealed (next, inr (refused, rest, split, refuses, tries)) =
      let more = tries_lose_none copied clock next v' bs rest sealed tries in
      let sum : sum_by loose_len stay ≡ loose_len b + sum_by loose_len rest = ap (sum_by loose_len) split ∙ sum_by-cons loose_len b rest in
      let was = sum_by-cons loose_len b bs in
      record {
        merged = inl (rest, split, more.merged);
        items = omega (arith, more.items, sum, was);
        then = more.then;
      }
