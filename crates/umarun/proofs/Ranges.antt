-- The numbers of a trace with a names line are those with which a cache can be made, so that nothing but want of memory refuses it.
use Rattle.std.proofs.Common.{◌≡◌, ◌⊎◌, ◌<◌, ◌≤◌, ◌*◌, ◌^◌, ℕ, refl, ap, arith, inl, inr}
use Rattle.std.specs.Prelude.{◌%◌}
use Rattle.smr_core.specs.declared.clock_core.ClockConfig.{ClockConfig}
use Rattle.smr_core.specs.declared.clock_core.CoreRefused.{CoreRefused}
use Rattle.smr_core.specs.declared.clock_core.CoreRefused.TheVariants as core
use Rattle.smr_core.specs.ClockState.{IsInRange}
use Rattle.smr_core.specs.Making.{RefusesNumbers}
use Rattle.name_rows.specs.declared.making.NamesRefused.{NamesRefused}
use Rattle.name_rows.specs.declared.making.NamesRefused.TheVariants as names
use Rattle.name_rows.specs.NamesLaw.{IsPlan}
use Rattle.name_rows.specs.Opening.{RefusesNames}
use Rattle.uma_zone.specs.declared.zone.make.ZoneRefused.{ZoneRefused}
use Rattle.uma_zone.specs.declared.zone.make.ZoneRefused.TheVariants as zones
use Rattle.uma_zone.specs.declared.zone.make.ZoneSet.{ZoneSet}
use Rattle.name_cache.specs.Making.{RefusesCache}
use Rattle.smr_clock.specs.declared.clock.Setup.{Setup}
use Rattle.smr_clock.specs.Making.{setup}
use Rattle.uma_zone.specs.Zone.{zone_bucket, zone_cap}
use Rattle.name_cache.specs.declared.cache.NameCache.{NameCache}
use Rattle.name_cache.specs.Cache.{cache_zone, cache_domains, row_count}
use Rattle.trace_text.specs.declared.trace.ClockHead.{ClockHead}
use Rattle.trace_text.specs.declared.trace.Head.{Head}
use Rattle.trace_text.specs.declared.trace.NamesHead.{NamesHead}
use Rattle.trace_text.specs.Limits.{IsWithin}
use Rattle.trace_text.specs.Valid.{ClockFits, NamesFits}
use Rattle.replay_worker.specs.NameSizes.{sizes_for}
use Rattle.umarun.specs.Caches.{sizes_by}
use Rattle.umarun.specs.Wanting.{LacksMemory, lacking}

-- a number is in its range, so it isn't refused
within : (low high n : ℕ) → IsWithin low high n → (n < low) ⊎ (high < n) → ⊥
within low high n is (inl below) = let from = is.0 in omega (arith, from, below)
within low high n is (inr above) = let to = is.1 in omega (arith, to, above)

clock_lacks : (a : ClockConfig) (refused : CoreRefused) → IsInRange a → RefusesNumbers a refused → refused ≡ core.Memory
clock_lacks a (core.Seats n) fits why = absurd (within 1 64 a.seats (fits.some_seat, fits.few_seats) why.1)
clock_lacks a (core.Even n) fits why = let odd = fits.odd_start in let even = why.2 in absurd (omega (arith, odd, even))
clock_lacks a (core.High n) fits why = let low = fits.low_start in let high = why.3 in absurd (omega (arith, low, high))
clock_lacks a (core.Window n) fits why = absurd (window a.window fits.even_window fits.least_window fits.greatest_window why.4)
  where
    window : (w : ℕ) → w % 2 ≡ 0 → 4 ≤ w → w ≤ 2 ^ 30 → (w % 2 ≡ 1) ⊎ (w < 4) ⊎ (2 ^ 30 < w) → ⊥
    window w even least greatest (inl odd) = omega (arith, even, odd)
    window w even least greatest (inr (inl low)) = omega (arith, least, low)
    window w even least greatest (inr (inr high)) = omega (arith, greatest, high)
clock_lacks a core.Memory fits why = refl

pub names_lack : (a : ClockConfig) (rows entries : ℕ) (refused : NamesRefused) → IsInRange a → IsPlan rows entries → RefusesNames a rows entries 0 refused → LacksMemory refused
names_lack a rows entries (names.Clock refused) fits plan why = clock_lacks a refused fits why
names_lack a rows entries (names.Rows n) fits plan why = within 1 4096 rows (plan.some_row, plan.few_rows) why.2
names_lack a rows entries (names.Entries n) fits plan why = let few = plan.few_entries in let many = why.4 in omega (arith, few, many)
names_lack a rows entries (names.Version n) fits plan why = let high = why.3 in omega (arith, high)
names_lack a rows entries names.Memory fits plan why = tt

pub cache_lacks : (set : ZoneSet) (refused : ZoneRefused) → IsWithin 1 1024 set.slabs → IsWithin 4 64 set.bucket → IsWithin 1 4 set.domains → RefusesCache set refused → refused ≡ lacking
cache_lacks set (zones.Size n) slabs bucket domains why = absurd (within 8 4096 64 (omega arith, omega arith) why.1)
cache_lacks set (zones.Slabs n) slabs bucket domains why = absurd (within 1 1024 set.slabs slabs why.2)
cache_lacks set (zones.Bucket n) slabs bucket domains why = absurd (within 4 64 set.bucket bucket why.3)
cache_lacks set (zones.Domains n) slabs bucket domains why = absurd (within 1 4 set.domains domains why.4)
cache_lacks set (zones.Zones n) slabs bucket domains why = absurd why
cache_lacks set zones.Memory slabs bucket domains why = refl

-- ---- what a valid head says

pub in_range : (workers : ℕ) (clock : ClockHead) (plan : ℕ × ℕ) → IsWithin 1 16 workers → ClockFits clock → IsInRange (setup workers clock.start clock.window plan).config
in_range workers clock plan few fits = record {
  some_seat = few.0;
  few_seats = let most = few.1 in omega (arith, most);
  odd_start = fits.start_odd;
  low_start = fits.start;
  even_window = fits.window_even;
  least_window = fits.window.0;
  greatest_window = fits.window.1;
}

pub plan_fits : (head : Head) (line : NamesHead) → NamesFits head line → IsPlan line.rows (line.slabs * 64)
plan_fits head line fits = record {
  some_row = fits.rows.0;
  few_rows = fits.rows.1;
  few_entries = let most = fits.slabs.1 in omega (arith, most);
}

pub entries_fit : (opened : Setup) (slabs : ℕ) (rows : ℕ) → opened.plan ≡ (rows, slabs * 64) → 64 * slabs ≤ opened.plan.1
entries_fit opened slabs rows is = let same = ap (λ (p : ℕ × ℕ). p.1) is in omega (arith, same)

pub sizes_are : (cache : NameCache) (head : Head) (line : NamesHead) → row_count cache ≡ line.rows → zone_cap (cache_zone cache) ≡ line.slabs → zone_bucket (cache_zone cache) ≡ line.bucket → cache_domains cache ≡ head.domains → sizes_by cache ≡ sizes_for head line
sizes_are cache head line rows slabs bucket domains = λ i. record { rows = rows i; slabs = slabs i; bucket = bucket i; domains = domains i }
