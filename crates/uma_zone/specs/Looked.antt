-- Own: what a look at an SMR zone's domain found.
use Rattle.std.specs.Prelude.{◌≡◌, ◌≤◌, ℕ}
use Rattle.smr_clock.specs.declared.view.View.{View}
use Rattle.smr_clock.specs.Goals.{number_of}
use Rattle.smr_clock.specs.Steps.{joined_view}
use Rattle.uma_bucket.specs.declared.bucket.Bucket.{Bucket}
use Rattle.uma_bucket.specs.declared.freed.Ripe.{Ripe}
use Rattle.uma_bucket.specs.Bucket.{items_of}
use Rattle.uma_bucket.specs.Finished.{AreFinished}
use Rattle.uma_bucket.specs.Loose.{loose_items}
use Rattle.uma_bucket.specs.Ripe.{ripe_bucket, ripe_goal, ripe_knows, IsRipeAt, IsOverFrom}
use Rattle.uma_zone.specs.declared.domains.ZoneDomains.{ZoneDomains}
use Rattle.uma_zone.specs.Domains.{domains_clock}

module _ {T H P : Type 0} {g h : _} where
  -- The bucket's items are those of a ripe bucket, whose note is of the zone's clock: freed items, each of which passed `dtor` in this look. The note knows that the goal with which they waited is expired, and from the moment on at which a seat of the clock knows as much, no open section is before that goal. A pass, whose view was v before and is v' after, took in what the note knows.
  pub record IsOfRipe (them : ZoneDomains T H P g h) (merged : P → P → P) (leaves : T → ℕ → T → Type 0) (v : View P) (bucket : Bucket T g) (v' : View P) : Type 0 where
    pub ripe : Ripe T H P g h
    pub of_clock : IsRipeAt (domains_clock them) ripe
    pub finished : AreFinished leaves (loose_items (ripe_bucket ripe)) (items_of bucket)
    pub expired : number_of (ripe_goal ripe) ≤ (ripe_knows ripe).holder.floor
    pub over : IsOverFrom (ripe_knows ripe) (number_of (ripe_goal ripe))
    pub absorbed : v' ≡ joined_view merged v (ripe_knows ripe)
