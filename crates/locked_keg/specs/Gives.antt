-- What becomes of a keg where items come back to it, one after another.
use Rattle.std.specs.Prelude.{◌≡◌, ◌+◌, ◌==◌, ℕ, List, [], ◌∷◌, length, count_by}
use Rattle.uma_life.specs.declared.states.Cached.{Cached}
use Rattle.uma_life.specs.Cached.{cached_zone}
use Rattle.uma_keg.specs.declared.keg.Keg.{Keg}
use Rattle.uma_keg.specs.GiveItem.{TakesBack}
use Rattle.uma_keg.specs.Keg.{out_in, buried_in}
use Rattle.locked_keg.specs.Frames.{KeepsZones}

module _ {T K : Type 0} {g : _} {h : _} where
  -- all the items of a list came back one after another, the last of the list first
  abbrev pub GivesAllBack : Keg T K g h → K → List (Cached T g) → Keg T K g h → Type 0
  GivesAllBack old hooks [] new = new ≡ old
  GivesAllBack old hooks (item ∷ items) new = (left : Keg T K g h) × GivesAllBack old hooks items left × TakesBack left hooks item new

-- how many items of a list are of a zone
abbrev pub count_in : {T : Type 0} {g : _} → List (Cached T g) → ℕ → ℕ
count_in items zone = count_by (λ item. cached_zone item == zone) items

module _ {T K : Type 0} {g : _} {h : _} where
  -- All came back, so many, and each zone has as many fewer outside as were of it. The zones stay otherwise.
  pub record GivesEach (old : Keg T K g h) (hooks : K) (items : List (Cached T g)) (answer : ℕ) (new : Keg T K g h) : Type 0 where
    pub count : answer ≡ length items
    pub gives : GivesAllBack old hooks items new
    pub outs : (zone : ℕ) → out_in new zone + count_in items zone ≡ out_in old zone
    pub buried : buried_in new ≡ buried_in old
    pub zones : KeepsZones old new
