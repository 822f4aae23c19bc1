-- Two items with one block are one item, and an item whose data come back as they were is the same item.
use Rattle.std.proofs.Common.{◌≡◌, ◌∙◌, ℕ, List, Option, Some, Result, Ok, Err, IsErrAnd, ap, sym, subst}
use Rattle.std.proofs.Props.{props}
use std.HLevel.{prop→path_p}
use Rattle.std.specs.Box.{with_value}
use Rattle.uma_life.specs.Hook.{Hook, IsCode}
use Rattle.uma_life.specs.Life.{Life}
use Rattle.uma_life.specs.Passes.{PassesOrNot}
use Rattle.uma_item.specs.declared.item.Item.{Item}
use Rattle.uma_item.specs.declared.trail.Trailed.{Trailed}
use Rattle.uma_item.specs.Counts.{kept_stays, KeepsItsStays}

pub item_same : {B : Type 0} (a b : Item B) → a.whole ≡ b.whole → a ≡ b
item_same a b whole = λ i. record {
  whole = whole i;
  counted = prop→path_p (λ j. KeepsItsStays (whole j).value.phase (kept_stays (whole j).value.stays)) (Prim.hlevel props) a.counted b.counted i;
}

pub data_back : {B : Type 0} (item new : Item B) (was : Trailed B) (back : B) → was ≡ item.whole.value → back ≡ was.«data» → new.whole ≡ with_value item.whole (record was { «data» = back }) → new ≡ item
data_back item new was back there same is = item_same new item (is ∙ (λ i. with_value item.whole (record was { «data» = same i })) ∙ (λ i. with_value item.whole (there i)))

-- what holds of two values holds of those that are the same
pub both_same : {A : Type 0} (Holds : A → A → Type 0) (a b c d : A) → a ≡ b → d ≡ c → Holds a c → Holds b d
both_same Holds a b c d front back holds = subst (λ x. Holds x d) front (subst (Holds a) (sym back) holds)

-- a hook that answers with the code of a refusal has refused
pub refused_by : {T : Type 0} (life_of : T → Life) (origin_of : T → List ℕ) (hook : Hook) (leaves : T → T → Type 0) (refusal : Option ℕ) (old new : T) (answer : Result (Unit {0}) ℕ) (code : ℕ) → IsErrAnd answer (λ told. told ≡ code) → refusal ≡ Some code → IsCode code → new ≡ old → PassesOrNot life_of origin_of hook leaves refusal old new answer
refused_by life_of origin_of hook leaves refusal old new (Ok done) code told by small same = absurd told
refused_by life_of origin_of hook leaves refusal old new (Err why) code told by small same = record { passed = tt; same_origin = tt; left = tt; accepts = tt; refuses = (by ∙ ap Some (sym told), subst IsCode (sym told) small); unchanged = same }
