-- Own: what becomes of the items of a ripe bucket.
use Rattle.std.specs.Prelude.{◌≡◌, ℕ, List}
use Rattle.std.specs.List.{AllZip}
use Rattle.smr_clock.specs.declared.pass.Note.{Note}
use Rattle.smr_clock.specs.Goals.{number_of}
use Rattle.smr_clock.specs.Notes.{note_knows}
use Rattle.uma_life.specs.declared.states.Cached.{Cached}
use Rattle.uma_bucket.specs.declared.bucket.Bucket.{Bucket}
use Rattle.uma_bucket.specs.declared.freed.Freed.{Freed}
use Rattle.uma_bucket.specs.declared.freed.Loose.{Loose}
use Rattle.uma_bucket.specs.declared.freed.Ripe.{Ripe}
use Rattle.uma_bucket.specs.Bucket.{items_of, tickets_of, size_of, place_of}
use Rattle.uma_bucket.specs.Freed.{IsFinished}
use Rattle.uma_bucket.specs.Home.{Home, AreHome}
use Rattle.uma_bucket.specs.Loose.{loose_items, loose_tickets, loose_size, loose_place}
use Rattle.uma_bucket.specs.Ripe.{ripe_bucket, ripe_goal, ripe_note, IsOverFrom}

-- as many items in the same order, each finished
abbrev pub AreFinished : {T : Type 0} {g : _} → (T → ℕ → T → Type 0) → List (Freed T g) → List (Cached T g) → Type 0
AreFinished leaves freed cached = AllZip (IsFinished leaves) freed cached

module _ {T : Type 0} {g : _} where
  -- each freed item of a bucket is a cached one in the same place
  pub record FinishesAll (leaves : T → ℕ → T → Type 0) (loose : Loose T g) (bucket : Bucket T g) : Type 0 where
    pub finished : AreFinished leaves (loose_items loose) (items_of bucket)
    pub size : size_of bucket ≡ loose_size loose
    pub place : place_of bucket ≡ loose_place loose

module _ {T H P : Type 0} {g h : _} where
  -- So is each of a ripe bucket, with its ticket. The note is back, and no section before the goal is open from here on.
  pub record BecomesCached (leaves : T → ℕ → T → Type 0) (ripe : Ripe T H P g h) (bucket : Bucket T g) (back : Note H P h) : Type 0 where
    pub finished : AreFinished leaves (loose_items (ripe_bucket ripe)) (items_of bucket)
    pub tickets : tickets_of bucket ≡ loose_tickets (ripe_bucket ripe)
    pub home : (home : Home) → AreHome home (loose_tickets (ripe_bucket ripe)) → AreHome home (tickets_of bucket)
    pub size : size_of bucket ≡ loose_size (ripe_bucket ripe)
    pub place : place_of bucket ≡ loose_place (ripe_bucket ripe)
    pub note : back ≡ ripe_note ripe
    pub over : IsOverFrom (note_knows back) (number_of (ripe_goal ripe))
