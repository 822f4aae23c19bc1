-- The zones of a trace's zone lines, in order (own).
use Rattle.std.specs.Prelude.{◌≡◌, ℕ, Bool, true, false, List, None, Some, length, slice_get}
use Rattle.smr_clock.specs.declared.clock.Clock.{Clock}
use Rattle.smr_clock.specs.declared.host.Host.{Ghosts}
use Rattle.trace_text.specs.declared.trace.Head.{Head}
use Rattle.trace_text.specs.declared.trace.ZoneHead.{ZoneHead}
use Rattle.trace_text.specs.declared.trace.ZoneKind.{ZoneKind}
use Rattle.trace_text.specs.declared.trace.ZoneKind.TheVariants.{Plain, Smr}
use Rattle.trace_text.specs.Valid.{sharer_count}
use Rattle.uma_zone.specs.Zone.{zone_key, zone_home, zone_index, zone_smr, zone_domains, zone_bucket, zone_limit, zone_size, zone_cap, zone_reserve, zone_rights}
use Rattle.replay_worker.specs.Items.{CountedZone}
use Rattle.replay_worker.specs.Worker.{AreOfClock}
use Rattle.replay_rounds.specs.Kegs.{index_of, rights_after}

abbrev pub is_smr : ZoneKind → Bool
is_smr Plain = false
is_smr Smr = true

module _ {H P : Type 0} {h : Ghosts H P} where
  -- a zone with the numbers of its line, and with so many domains
  pub record HasNumbers (domains : ℕ) (line : ZoneHead) (zone : CountedZone H P h) : Type 0 where
    pub size : zone_size zone ≡ line.size
    pub cap : zone_cap zone ≡ line.slabs
    pub reserve : zone_reserve zone ≡ line.reserve
    pub bucket : zone_bucket zone ≡ line.bucket
    pub limit : zone_limit zone ≡ line.limit
    pub smr : zone_smr zone ≡ is_smr line.kind
    pub domain_count : zone_domains zone ≡ domains

  -- the zone of the line at place `z` of these: it has its numbers, and its own number in its keg
  pub record IsZoneOf (heads : List ZoneHead) (domains z : ℕ) (line : ZoneHead) (zone : CountedZone H P h) : Type 0 where
    pub numbers : HasNumbers domains line zone
    pub index : zone_index zone ≡ index_of heads z line

  -- One zone a line, of readers by this clock.
  pub record AreZones (head : Head) (clock : Clock H P) (zones : List (CountedZone H P h)) : Type 0 where
    pub count : length zones ≡ length head.zones
    pub each : (z : ℕ) (line : ZoneHead) (zone : CountedZone H P h) → slice_get head.zones z ≡ Some line → slice_get zones z ≡ Some zone → IsZoneOf head.zones head.domains z line zone
    pub of_clock : AreOfClock clock zones
    -- a secondary zone has its parent's keg, and so its book of numbers
    pub shares : (z parent : ℕ) (line : ZoneHead) (zone primary : CountedZone H P h) → slice_get head.zones z ≡ Some line → line.parent ≡ Some parent → slice_get zones z ≡ Some zone → slice_get zones parent ≡ Some primary → (zone_key zone ≡ zone_key primary) × ((zone_home zone).book ≡ (zone_home primary).book)
    -- and a keg has no other zones than those of the lines
    pub rights : (z : ℕ) (line : ZoneHead) (zone : CountedZone H P h) → slice_get head.zones z ≡ Some line → line.parent ≡ None → slice_get zones z ≡ Some zone → zone_rights zone ≡ rights_after (sharer_count head.zones z)
