-- What a retirement and a push come to. Own.
use Rattle.std.specs.Prelude.{◌≡◌, ◌≤◌, ◌<◌, ◌+◌, ◌^◌, ℕ, [], ◌∷◌, ◌++◌}
use Rattle.smr_clock.specs.declared.view.View.{View}
use Rattle.smr_clock.specs.declared.host.Host.{Ghosts}
use Rattle.smr_deferred.specs.declared.retire_list.RetireRefused.{RetireRefused}
use Rattle.smr_deferred.specs.declared.retire_list.RetireRefused.TheVariants.{Spent, Memory}
use Rattle.smr_deferred.specs.declared.retire_list.RetireList.{RetireList}
use Rattle.smr_deferred.specs.Advancing.{AdvancesOnce, Paces}
use Rattle.smr_deferred.specs.Goals.{CoversOpen}
use Rattle.smr_deferred.specs.Numbers.{one_pushed}
use Rattle.smr_deferred.specs.Pace.{IsUsed}
use Rattle.smr_deferred.specs.Pass.{LoadsWrite}
use Rattle.smr_deferred.specs.Retired.{retired}
use Rattle.smr_deferred.specs.RetireList.{listed, pace_of, counts_of, IsFull, IsSame}

module _ {T H P : Type 0} {g : Ghosts H P} where
  -- The value is the newest, with the goal two above the write sequence that was loaded for it, and its goal covers each section open then. Then the list advances, where that is due. A list takes one note for its clock, at its first use: the pass of a list that was used before has seen no more than that write sequence when the advance begins.
  pub record Retires (copied : P → P) (v : View P) (value : T) (was is : RetireList T H P g) (v' : View P) : Type 0 where
    pub write : ℕ
    pub begun : View P
    pub load : LoadsWrite v write begun
    pub once : IsUsed (pace_of was) → begun.holder.seen ≡ write
    pub room : write + 2 < 2 ^ 63
    pub newest : listed is ≡ listed was ++ retired value (write + 2) ∷ []
    pub covers : CoversOpen P v.setup write (write + 2)
    pub paces : Paces copied begun (write + 2) (pace_of was) (pace_of is) v'

  -- The list loads the write sequence and advances once, and takes no note but at its first use. Its values stay.
  pub record Pushes (copied : P → P) (v : View P) (was is : RetireList T H P g) (v' : View P) : Type 0 where
    pub write : ℕ
    pub begun : View P
    pub load : LoadsWrite v write begun
    pub once : IsUsed (pace_of was) → begun.holder.seen ≡ write
    pub stay : listed is ≡ listed was
    pub advance : AdvancesOnce copied begun (write + 2) (one_pushed (counts_of was)) (pace_of was) (pace_of is) v'

  -- No value is listed: the write sequence that was loaded for it leaves no goal; or memory is wanting where the list's room is used, and then the pass is as it was.
  abbrev pub RefusesRetire : View P → RetireList T H P g → RetireRefused → View P → Type 0
  RefusesRetire v was (Spent write) v' = LoadsWrite v write v' × (2 ^ 63 ≤ write + 2)
  RefusesRetire v was Memory v' = (v' ≡ v) × IsFull was

  -- and the list is as it was
  pub record DeclinesValue (v : View P) (was : RetireList T H P g) (refused : RetireRefused) (is : RetireList T H P g) (v' : View P) : Type 0 where
    pub cause : RefusesRetire v was refused v'
    pub same : IsSame was is
