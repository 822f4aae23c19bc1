-- Slabs were brought in, and the next one was refused.
use Rattle.std.proofs.Common.{◌≡◌, ◌<◌, ℕ}
use Rattle.uma_keg.specs.declared.fetch.FetchRefused.{FetchRefused}
use Rattle.uma_keg.specs.declared.keg.Keg.{Keg}
use Rattle.uma_keg.specs.BringSlab.{RefusesSlab}
use Rattle.uma_keg.specs.BringSlabs.{BringsSlabs}
use Rattle.uma_keg.specs.Keg.{places_in, stored_in, buried_in, IsSameKeg}
use Rattle.locked_keg.specs.Rule.{HasDomainsBelow}
use Rattle.locked_keg.specs.Slabs.{StopsBringing}
use Rattle.locked_keg.proofs.Domains.{same_places, brought_domains}

module _ {T K : Type 0} {g : _} {h : _} where
  pub stops_bringing : (old mid new : Keg T K g h) (domain slabs count : ℕ) (why : FetchRefused) → slabs < count → BringsSlabs old domain slabs mid → IsSameKeg old mid → RefusesSlab mid (buried_in new) why → places_in new ≡ places_in mid → ((n : ℕ) → stored_in new n ≡ stored_in mid n) → StopsBringing old domain count why new
  stops_bringing old mid new domain slabs count why fewer brings same refused places stored = record {
    slabs = slabs;
    fewer = fewer;
    left = mid;
    brings = brings;
    same = same;
    refused = refused;
    places = places;
    stored = stored;
  }

  pub stopped_domains : (old new : Keg T K g h) (domain count domains : ℕ) (why : FetchRefused) → StopsBringing old domain count why new → domain < domains → HasDomainsBelow domains (places_in old) → HasDomainsBelow domains (places_in new)
  stopped_domains old new domain count domains why stops own below = same_places (places_in stops.left) (places_in new) domains stops.places (brought_domains old stops.left domain stops.slabs domains stops.brings own below)
