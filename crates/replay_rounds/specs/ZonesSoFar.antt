-- The zones of the first lines, while they are made one after another (own).
use Rattle.std.specs.Prelude.{◌≡◌, ◌≢◌, ◌<◌, ◌++◌, ℕ, List, [], ◌∷◌, Some, length, slice_get, take}
use Rattle.smr_clock.specs.declared.clock.Clock.{Clock}
use Rattle.smr_clock.specs.declared.host.Host.{Ghosts}
use Rattle.smr_clock.specs.declared.clock.Setup.{Setup}
use Rattle.smr_clock.specs.Belongs.{TableId}
use Rattle.trace_text.specs.declared.trace.Head.{Head}
use Rattle.trace_text.specs.declared.trace.ZoneHead.{ZoneHead}
use Rattle.trace_text.specs.Limits.{IsWithin}
use Rattle.trace_text.specs.Valid.{HeadFits, PrimaryFits}
use Rattle.uma_zone.specs.Making.{IsSameZone}
use Rattle.uma_zone.specs.Zone.{zone_key, zone_index, zone_clock, zone_smr, zone_domains, zone_bucket, zone_limit, zone_rights}
use Rattle.replay_worker.specs.Items.{CountedZone}
use Rattle.replay_rounds.specs.Kegs.{rights_after}
use Rattle.replay_rounds.specs.Zones.{AreZones, HasNumbers, is_smr}

-- the head with these zone lines
abbrev pub with_lines : List ZoneHead → Head → Head
with_lines lines head = record head { zones = lines }

-- the head with its first zone lines alone
abbrev pub cut : ℕ → Head → Head
cut count head = with_lines (take count head.zones) head

-- a line whose numbers a primary zone may have, in a trace with so many domains
pub record CanMakeFirst (count : ℕ) (line : ZoneHead) : Type 0 where
  pub domains : IsWithin 1 4 count
  pub keg : PrimaryFits line
  pub bucket : IsWithin 4 64 line.bucket

module _ {H P : Type 0} {h : Ghosts H P} where
  -- this is the line at a place of a head that fits, and the zones of the lines before it are made
  pub record IsNextLine (head : Head) (clock : Clock H P) (place : ℕ) (next : ZoneHead) (zones : List (CountedZone H P h)) : Type 0 where
    pub fits : HeadFits head
    pub line : slice_get head.zones place ≡ Some next
    pub so_far : AreZones (cut place head) clock zones

  -- a place of a head that fits, and the zones of the lines before it are made
  pub record CanAddZone (head : Head) (by : Clock H P) (at : ℕ) (made : List (CountedZone H P h)) : Type 0 where
    pub fits : HeadFits head
    pub place : at < length head.zones
    pub so_far : AreZones (cut at head) by made

  -- a line whose numbers a further zone may have, over a primary zone that has a right left
  pub record CanMakeFurther (primary : CountedZone H P h) (line : ZoneHead) : Type 0 where
    pub index : zone_index primary ≡ 0
    pub right : zone_rights primary ≢ []
    pub bucket : IsWithin 4 64 line.bucket

  -- the zone of a `zone` line: the first of its keg, of readers by this clock
  pub record IsFirst (clock : TableId × Setup) (domains : ℕ) (line : ZoneHead) (zone : CountedZone H P h) : Type 0 where
    pub same_clock : zone_clock zone ≡ clock
    pub index : zone_index zone ≡ 0
    pub numbers : HasNumbers domains line zone
    pub rights : zone_rights zone ≡ rights_after 0

  -- the zone of a `second` line over a primary one, which gave the next of its rights for it
  pub record IsFurther (line : ZoneHead) (old new zone : CountedZone H P h) : Type 0 where
    pub same_key : zone_key zone ≡ zone_key old
    pub same_clock : zone_clock zone ≡ zone_clock old
    pub bucket : zone_bucket zone ≡ line.bucket
    pub limit : zone_limit zone ≡ line.limit
    pub smr : zone_smr zone ≡ is_smr line.kind
    pub domain_count : zone_domains zone ≡ zone_domains old
    pub right : zone_rights old ≡ zone_rights new ++ zone_index zone ∷ []
    pub same : IsSameZone old new
