-- Own: what the host's part of a pass takes in where ripe buckets go back to the keg.
use Rattle.std.specs.Prelude.{◌≡◌, List, [], ◌∷◌, fold, flat_map}
use Rattle.uma_bucket.specs.Ripe.{ripe_knows}
use Rattle.uma_domain.specs.declared.trims.TakenBucket.{TakenBucket}
use Rattle.uma_domain.specs.declared.trims.TakenBucket.TheVariants.{Plain, Ripe}

module _ {T H P : Type 0} {g h : _} where
  -- the host's part of a ripe bucket's note; a plain bucket has no note
  abbrev pub notes_of : TakenBucket T H P g h → List P
  notes_of (Plain bucket) = []
  notes_of (Ripe bucket) = (ripe_knows bucket).host ∷ []

  -- those of all buckets that a domain gave up, in their order
  abbrev pub notes_in : List (TakenBucket T H P g h) → List P
  notes_in buckets = flat_map notes_of buckets

-- It took in parts of notes, one after another, as the host merges two, or none.
pub record TakesInNotes {P : Type 0} (merged : P → P → P) (was is : P) : Type 0 where
  pub notes : List P
  pub told : is ≡ fold merged was notes
