-- The header of a made trace is one of a valid trace.
use Rattle.std.proofs.Common.{◌≢◌, ℕ, zero, suc, List, refl, arith, rules}
use Rattle.std.specs.Prelude.{AllPairs, IfSome, codes, slice_get}
use Rattle.trace_text.specs.Limits.{IsWithin}
use Rattle.trace_text.specs.Valid.{HeadFits, ZoneFits, zone_names}
use Rattle.zone_stats.specs.Name.{IsName}
use Rattle.trace_gen.specs.Header.{made_head}

alpha : IsName (codes "alpha")
alpha = record { nonempty = omega arith; fits = omega arith; characters = search rules }

beta : IsName (codes "beta")
beta = record { nonempty = omega arith; fits = omega arith; characters = search rules }

gamma : IsName (codes "gamma")
gamma = record { nonempty = omega arith; fits = omega arith; characters = search rules }

dir : IsName (codes "dir")
dir = record { nonempty = omega arith; fits = omega arith; characters = search rules }

zones_fit : (workers place : ℕ) → IfSome (slice_get (made_head workers).zones place) (ZoneFits (made_head workers) place)
zones_fit workers zero = record {
  name = alpha;
  keg = record { size = (omega arith, omega arith); slabs = (omega arith, omega arith); reserve = omega arith };
  bucket = (omega arith, omega arith);
  limit = omega arith;
  kind = tt;
}
zones_fit workers (suc zero) = record {
  name = beta;
  keg = record { size = (omega arith, omega arith); slabs = (omega arith, omega arith); reserve = omega arith };
  bucket = (omega arith, omega arith);
  limit = omega arith;
  kind = tt;
}
zones_fit workers (suc (suc zero)) = record {
  name = gamma;
  keg = record { size = (omega arith, omega arith); slabs = (omega arith, omega arith); reserve = omega arith };
  bucket = (omega arith, omega arith);
  limit = omega arith;
  kind = refl;
}
zones_fit workers (suc (suc (suc place))) = search rules

differ : (workers : ℕ) → AllPairs (λ (a b : List ℕ). a ≢ b) (zone_names (made_head workers))
differ workers = search rules

pub head_fits : (workers : ℕ) → IsWithin 1 16 workers → HeadFits (made_head workers)
head_fits workers within = record {
  workers = within;
  domains = (let low = within.0 in omega arith, omega arith);
  clock = record { start_odd = refl; start = omega arith; window_even = refl; window = (omega arith, omega arith) };
  zones = zones_fit workers;
  names = record { name = dir; clock = refl; rows = (omega arith, omega arith); slabs = (omega arith, omega arith); bucket = (omega arith, omega arith) };
  names_differ = differ workers;
  most_zones = omega arith;
  most_of_a_keg = λ place lt. omega arith;
}
