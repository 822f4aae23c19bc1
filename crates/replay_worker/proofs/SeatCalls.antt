-- What the zone's calls leave of a seat, put into one record each.
use Rattle.std.proofs.Common.{◌≡◌, true, false, Result, Ok, Err, sym, ◌∙◌, true≢false}
use Rattle.std.specs.Prelude.{not, ◌==◌}
use Rattle.smr_clock.specs.declared.host.Host.{Ghosts}
use Rattle.uma_life.specs.Live.{live_domain}
use Rattle.uma_seat.specs.Seat.{seat_domain, ledger_of, fetches_of, IsSameSeat, KeepsTop, KeepsMisses}
use Rattle.uma_zone.specs.declared.zone.alloc.AllocRefused.{AllocRefused}
use Rattle.uma_zone.specs.declared.zone.alloc.AllocRefused.TheVariants.{Refused, Memory}
use Rattle.uma_zone.specs.Free.{Frees}
use Rattle.uma_zone.specs.Zone.{zone_smr}
use Rattle.zone_stats.specs.declared.refusal.Refusal.{Refusal}
use Rattle.zone_stats.specs.LedgerSteps.{CountsFree}
use Rattle.replay_worker.specs.Items.{CountedSeat, CountedZone, LiveItem}
use Rattle.replay_worker.specs.Requests.{Defers, Releases}

pub not_err : {A E : Type 0} (a : A) (e : E) → Path (Result A E) (Ok a) (Err e) → ⊥
not_err a e same = absurd (cc)

pub not_memory : {A : Type 0} (why : AllocRefused) (refusal : Refusal) → why ≡ Refused refusal → Path (Result A AllocRefused) (Err why) (Err Memory) → ⊥
not_memory why refusal is same = absurd (cc)

module _ {H Part : Type 0} {h : Ghosts H Part} where
  -- what a free leaves of its seat, by either way
  pub record Counted (old : CountedSeat H Part h) (item : LiveItem) (new : CountedSeat H Part h) : Type 0 where
    pub counted : CountsFree (ledger_of old) (ledger_of new) (not (live_domain item == seat_domain old))
    pub fetches : fetches_of new ≡ fetches_of old
    pub same : IsSameSeat old new
    pub top : KeepsTop old new
    pub misses : KeepsMisses old new

  pub not_both : (zone : CountedZone H Part h) → zone_smr zone ≡ true → zone_smr zone ≡ false → ⊥
  not_both zone smr plain = true≢false (sym smr ∙ plain)

  pub releases_plain : (zone : CountedZone H Part h) (old new : CountedSeat H Part h) (item : LiveItem) → zone_smr zone ≡ false → Frees zone old item new → Counted old item new → Releases zone old item new
  releases_plain zone old new item kind frees counted = record {
    plain = λ _. frees;
    smr = λ smr. absurd (true≢false (sym smr ∙ kind));
    counted = counted.counted;
    fetches = counted.fetches;
    same = counted.same;
    top = counted.top;
    misses = counted.misses;
  }

  pub releases_smr : (zone : CountedZone H Part h) (old new : CountedSeat H Part h) (item : LiveItem) → zone_smr zone ≡ true → Defers old item new → Counted old item new → Releases zone old item new
  releases_smr zone old new item kind defers counted = record {
    plain = λ plain. absurd (true≢false (sym kind ∙ plain));
    smr = λ _. defers;
    counted = counted.counted;
    fetches = counted.fetches;
    same = counted.same;
    top = counted.top;
    misses = counted.misses;
  }
