-- What a prealloc comes to: the slabs that a zone's keg brought in, or why it brought no further one in.
use Rattle.std.proofs.Common.{◌≡◌, ◌/◌, ℕ, Result, Ok, Err, IfOk, IfErr, OnOk, min, sym, subst}
use Rattle.uma_keg.specs.declared.keg.Keg.{Keg}
use Rattle.uma_keg.specs.declared.fetch.FetchRefused.{FetchRefused}
use Rattle.uma_keg.specs.BringSlabs.{BringsSlabs}
use Rattle.uma_keg.specs.Keg.{places_in, table_in}
use Rattle.locked_keg.specs.Slabs.{StopsBringing}
use Rattle.uma_zone.specs.declared.zone.Zone.{Zone}
use Rattle.uma_zone.specs.Zone.{zone_home, zone_size, zone_cap}
use Rattle.uma_zone.specs.Prealloc.{slabs_for, Preallocs, RefusesPrealloc}

module _ {T K H P : Type 0} {g k h : _} where
  -- all came in
  pub preallocs : (zone : Zone T K H P g k h) (was is : Keg T K g k) (domain count : ℕ) (end : Result ℕ FetchRefused) → table_in was ≡ (zone_home zone).book → IfOk end (λ brought. brought ≡ count) → OnOk end (BringsSlabs was domain count is)
      → IfOk end (Preallocs zone domain)
  preallocs zone was is domain count (Ok brought) book all brings = record {
    was = was;
    is = is;
    of_zone = book;
    brings = subst (λ (n : ℕ). BringsSlabs was domain n is) (sym all) brings;
  }
  preallocs zone was is domain count (Err why) book all brings = all

  -- the refusal of the first slab that didn't come in
  pub refuses_prealloc : (zone : Zone T K H P g k h) (was is : Keg T K g k) (items domain count : ℕ) (end : Result ℕ FetchRefused) → table_in was ≡ (zone_home zone).book → (places_in was).cap ≡ zone_cap zone
      → count ≡ slabs_for items (min 256 (4096 / zone_size zone)) → IfErr end (λ why. StopsBringing was domain count why is) → IfErr end (RefusesPrealloc zone items domain)
  refuses_prealloc zone was is items domain count (Ok brought) book cap many stops = stops
  refuses_prealloc zone was is items domain count (Err why) book cap many stops = record {
    was = was;
    is = is;
    of_zone = book;
    cap = cap;
    stops = subst (λ (n : ℕ). StopsBringing was domain n why is) many stops;
  }
