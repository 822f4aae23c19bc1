-- Own: the counts of an item, derived from its phase and from the few that it keeps.
use Rattle.std.specs.Prelude.{◌≡◌, ℕ, List, [], ◌∷◌, ◌+◌, ◌-◌, ◌%◌, ◌^◌, ◌==◌, Bool, true, false, Option, Some, None, length, replicate, slice_index_or}
use Rattle.std.specs.declared.boxed.Box.{Box}
use Rattle.uma_life.specs.declared.tally.BodyPhase.{BodyPhase}
use Rattle.uma_life.specs.declared.tally.Tally.{Tally}
use Rattle.uma_life.specs.declared.tally.ZoneTally.{ZoneTally}
use Rattle.uma_life.specs.Hook.{raised}
use Rattle.uma_life.specs.Trail.{keg_inits_by, keg_finis_by, open_stays, open_builds}
use Rattle.uma_life.specs.Word.{by_zone}
use Rattle.uma_item.specs.declared.item.StayCounts.{StayCounts}

-- a count less one or none, from 0 to 2^64 - 1
abbrev pub less : ℕ → ℕ → ℕ
less count begun = (count + 2 ^ 64 - begun) % 2 ^ 64

abbrev pub no_stays : StayCounts
no_stays = record { inits = 0; ctors = 0 }

-- the kept counts of a new item: those of the seven secondary zones, all 0, where it has a box for them
abbrev pub first_stays : Bool → List StayCounts
first_stays true = replicate 7 no_stays
first_stays false = []

-- the kept counts of the secondary zones, in order: none where there is no box
abbrev pub kept_stays : {A : Type 0} → Option (Box (List StayCounts) A) → List StayCounts
kept_stays None = []
kept_stays (Some box) = box.value

-- an item in a secondary zone keeps the counts of its stays
abbrev pub KeepsItsStays : BodyPhase → List StayCounts → Type 0
KeepsItsStays phase stays = (zone : ℕ) → open_stays phase zone ≡ 1 → length stays ≡ 7

-- the kept counts of a secondary zone, which is 1 to 7; all 0 where an item keeps none
abbrev pub stay_at : List StayCounts → ℕ → StayCounts
stay_at stays zone = slice_index_or stays (zone - 1) no_stays

-- a stay's counts with one init more, and with one ctor more

abbrev pub with_init : StayCounts → StayCounts
with_init stay = record stay { inits = raised stay.inits }

abbrev pub with_ctor : StayCounts → StayCounts
with_ctor stay = record stay { ctors = raised stay.ctors }

-- the counts of a zone, by the builds and stays that are open there: as many dtors as ctors but for an open build, as many finis as inits but for an open stay; the primary zone has no stays
abbrev pub counts_with : Bool → ℕ → ℕ → ℕ → StayCounts → ZoneTally
counts_with true builds stays ctors stay = record { inits = 0; ctors = ctors; dtors = less ctors builds; finis = 0 }
counts_with false builds stays ctors stay = record { inits = stay.inits; ctors = stay.ctors; dtors = less stay.ctors builds; finis = less stay.inits stays }

abbrev pub counts_by : BodyPhase → ℕ → List StayCounts → ℕ → ZoneTally
counts_by phase ctors stays zone = counts_with (zone == 0) (open_builds phase zone) (open_stays phase zone) ctors (stay_at stays zone)

-- the whole tally
abbrev pub tally_by : BodyPhase → ℕ → List StayCounts → Tally
tally_by phase ctors stays = record { keg_inits = keg_inits_by phase; keg_finis = keg_finis_by phase; zones = by_zone (counts_by phase ctors stays) }

-- how an item refuses an init: into a secondary zone by its own code where it keeps no counts of stays, else as its data is refused
abbrev pub refusal_of_stay : Bool → List StayCounts → Option ℕ → Option ℕ
refusal_of_stay true stays refused = refused
refusal_of_stay false [] refused = Some 255
refusal_of_stay false (stay ∷ more) refused = refused
