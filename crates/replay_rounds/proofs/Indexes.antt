-- No two zones of a keg have one number in it, and a head has few zones.
use Rattle.std.proofs.Common.{◌≡◌, ℕ, ◌+◌, ◌≤◌, inl, inr, List, [], ◌∷◌, Some, subst, arith, length, map}
use Rattle.std.proofs.lemmas.Bool.{cases_eq}
use Rattle.std.proofs.lemmas.List.{length-append, length-map}
use Rattle.std.specs.Prelude.{slice_get}
use Rattle.std.specs.Option.{option_map_or}
use Rattle.trace_text.specs.declared.trace.Head.{Head}
use Rattle.trace_text.specs.declared.trace.NamesHead.{NamesHead}
use Rattle.trace_text.specs.declared.trace.ZoneHead.{ZoneHead}
use Rattle.trace_text.specs.Valid.{HeadFits}
use Rattle.replay_rounds.specs.Kegs.{index_of, keg_place}
use Rattle.replay_rounds.proofs.ZoneNumbers.{numbers_differ}

pub differ : (heads : List ZoneHead) (p z y : ℕ) (a b : ZoneHead) → slice_get heads z ≡ Some a → slice_get heads y ≡ Some b → keg_place z a ≡ p → keg_place y b ≡ p → index_of heads z a ≡ index_of heads y b → z ≡ y
differ heads p z y a b at_a at_b of_a of_b same = elim (cases_eq z y) [
  | inl here ↦ here
  | inr apart ↦ absurd (numbers_differ heads p z y a b apart at_a at_b of_a of_b same)
]

few_first : (a b c : ℕ) → a + b ≤ c → a ≤ c
few_first a b c le = omega arith

pub few_zones : (head : Head) → HeadFits head → length head.zones ≤ 16
few_zones head fits =
    let names = map (λ (z : ZoneHead). z.name) head.zones in
    let more = option_map_or (λ (n : NamesHead). n.name ∷ []) head.names [] in
    let P : ℕ → Type 0 = λ n. n ≤ 16 in
    subst P (length-map head.zones (λ (z : ZoneHead). z.name)) (few_first (length names) (length more) 16 (subst P (length-append names more) fits.most_zones))
