-- What is buried of an item that is ended. That keg_fini runs on each item of a slab that is given up is the rule of FreeBSD's uma(9).
use Rattle.std.specs.Prelude.{◌≡◌, ◌≤◌, ◌<◌, ◌+◌, ◌*◌, ◌^◌, List, Option, IfSome, All, length, sum_by}
use Rattle.uma_life.specs.declared.states.Stored.{Stored}
use Rattle.uma_life.specs.Stored.{stored_body}
use Rattle.uma_life.specs.declared.tally.TallySum.{TallySum}
use Rattle.uma_life.specs.Hook.{Hook, KegFini, after}
use Rattle.uma_life.specs.Sum.{sum_of, AreBelow}
use Rattle.uma_keg.specs.Tallies.{ended_times}

-- An item was ended: what was buried is a body that keg_fini left of its body.
pub record IsEnded {T : Type 0} {g : _} (Leaves : T → T → Type 0) (item : Stored T g) : Type 0 where
  pub gone : T
  pub left : Leaves (stored_body item) gone
  pub passed : g.life gone ≡ after KegFini (g.life (stored_body item))

-- the same of a place, where it has an item
abbrev pub IsEndedAt : {T : Type 0} {g : _} → (T → T → Type 0) → Option (Stored T g) → Type 0
IsEndedAt Leaves place = IfSome place (IsEnded Leaves)

-- the places are those of one slab, and the sums have room for their items
pub record MayEnd {T : Type 0} {g : _} (places : List (Option (Stored T g))) (buried : TallySum) : Type 0 where
  pub few : length places ≤ 256
  pub room : AreBelow (2 ^ 126) buried

-- the items of these places are ended, and their tallies added to the buried
pub record EndsItems {T : Type 0} {g : _} (Leaves : T → T → Type 0) (places : List (Option (Stored T g))) (old new : TallySum) : Type 0 where
  pub sums : (hook : Hook) → sum_of new hook ≡ sum_of old hook + sum_by (ended_times hook) places
  pub counts : (hook : Hook) → sum_by (ended_times hook) places ≤ length places * 2 ^ 64
  pub ended : All (IsEndedAt Leaves) places

-- the item of a place is ended, if one is there
pub record EndsItem {T : Type 0} {g : _} (Leaves : T → T → Type 0) (place : Option (Stored T g)) (old new : TallySum) : Type 0 where
  pub sums : (hook : Hook) → sum_of new hook ≡ sum_of old hook + ended_times hook place
  pub counts : (hook : Hook) → ended_times hook place < 2 ^ 64
  pub ended : IsEndedAt Leaves place
