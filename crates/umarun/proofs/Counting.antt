-- What a bind and an unbind of a cache count, as the lines of names need it.
use Rattle.std.proofs.Common.{◌≡◌, ◌≢◌, ℕ, zero, suc, ◌<◌, ◌≤◌, Option, None, Some, Result, Ok, Err, refl, sym, ap, subst, ◌∙◌, inl, inr, arith}
use Rattle.std.proofs.lemmas.Option.{none-some, same_Some}
use Rattle.std.specs.Prelude.{◌⊎◌, Bool, false, IfNone, IfOk, IfSome, OnOk, is_some}
use Rattle.zone_stats.specs.declared.ledger.SeatLedger.{SeatLedger}
use Rattle.zone_stats.specs.declared.refusal.Refusal.{Refusal}
use Rattle.zone_stats.specs.declared.refusal.Refusal.TheVariants.{AtLimit, Reserved, Full, Init, Ctor}
use Rattle.uma_seat.specs.Counts.{ledger_in}
use Rattle.uma_seat.specs.Seat.{ledger_of}
use Rattle.uma_zone.specs.Alloc.{IsOneRefusal, Names}
use Rattle.uma_zone.specs.Zone.{zone_cap, zone_reserve}
use Rattle.smr_clock.specs.declared.view.View.{View}
use Rattle.name_rows.specs.declared.names.Part.{Part}
use Rattle.name_rows.specs.declared.names.Bound.{Bound}
use Rattle.name_rows.specs.declared.words.Words.{Words}
use Rattle.name_cache.specs.Raised.{refusal_of}
use Rattle.name_cache.specs.declared.binding.BindRefused.{BindRefused}
use Rattle.name_cache.specs.declared.binding.BindRefused.TheVariants.{Zone, Worn, Unripe, Memory}
use Rattle.name_cache.specs.declared.binding.Receipt.{Receipt}
use Rattle.name_cache.specs.Bind.{Binds, FindsUnripe, FindsWorn, RefusesToBind, HandsBack, HasRoomToBind as HasRoomInCache}
use Rattle.name_cache.specs.Deferred.{FreesBound}
use Rattle.name_cache.specs.Unbind.{Unbinds, FindsUnbound}
use Rattle.name_cache.specs.Types.{ZoneOfEntries, EntrySeat, LiveEntry}
use Rattle.replay_worker.specs.NameLedger.{HasRoomToBind, NamesRefuse, MayCountFree, CountsOneFree, CountsBind, CountsGivenBack, BindCounts, UnbindCounts}

pub room_in_cache : (ledger : SeatLedger) → HasRoomToBind ledger → HasRoomInCache ledger
room_in_cache ledger room = record { now = room.now; later = room.later }

-- ---- a bind that bound

evicted : (v v' : View Part) (old new : EntrySeat) (content : Option Bound) → FreesBound v old content v' new → MayCountFree (ledger_of old) (ledger_of new)
evicted v v' old new None frees = inl (ap (λ (s : EntrySeat). ledger_of s) frees)
evicted v v' old new (Some b) frees = inr (_, frees.frees.free)

pub bind_counts : (zone : ZoneOfEntries) (rows key value : ℕ) (v v' : View Part) (old new : EntrySeat) (receipt : Receipt) → Binds zone rows key value v old receipt v' new → CountsBind (ledger_of old) (ledger_of new)
bind_counts zone rows key value v v' old new receipt b = record { between = ledger_of b.after; alloc = b.takes.counted; evicts = evicted b.left v' b.after new b.before.content b.evicts }

-- ---- a bind that was refused

code_of : (index : ℕ) (words : Option Words) (code : ℕ) → refusal_of index words ≡ Some code → code ≡ 255
code_of zero None code is = sym (same_Some 255 code is)
code_of zero (Some w) code is = absurd (none-some code is)
code_of (suc index) words code is = absurd (none-some code is)

unreserved : (free kept : ℕ) → kept ≡ 0 → 0 < free → free ≤ kept → ⊥
unreserved free kept none some few = omega arith

module _ (zone : ZoneOfEntries) (no_reserve : zone_reserve zone ≡ 0) where
  fits : (refusal : Refusal) → Names zone false refusal → NamesRefuse (zone_cap zone) refusal
  fits (AtLimit out limit) names = names
  fits (Reserved free kept) names = absurd (unreserved free kept (names.0 ∙ no_reserve) names.1 names.2)
  fits (Full slabs made) names = names
  fits (Init code) names = code_of names.2 (names.1).entry.words code names.4
  fits (Ctor code) names = absurd names

  given_back : (Cause : Type 0) (v' : View Part) (old new : EntrySeat) (handed freed : LiveEntry) → Cause → HandsBack zone old handed freed v' new → CountsGivenBack Cause (ledger_of old) (ledger_of new)
  given_back Cause v' old new handed freed cause back = record { cause = cause; between = ledger_of back.after; alloc = back.takes.counted; back = (_, back.frees.free) }

  abbrev IsTurnedBack : ℕ → ℕ → View Part → EntrySeat → View Part → EntrySeat → Type 0
  IsTurnedBack rows key v old v' new = ((read stamp : ℕ) × FindsUnripe zone rows key v old read stamp v' new) ⊎ ((row version : ℕ) × FindsWorn zone rows key v old row version v' new)

  pub refusal_counts : (rows key : ℕ) (v v' : View Part) (old new : EntrySeat) (refused : BindRefused) → RefusesToBind zone rows key v old v' new refused → refused ≢ Memory
      → BindCounts (zone_cap zone) (λ (refusal : Refusal). (seat : EntrySeat) × IsOneRefusal zone false refusal seat) (IsTurnedBack rows key v old v' new) false (ledger_of old) (ledger_of new)
  refusal_counts rows key v v' old new (Zone refusal) turned other = inl (record { refusal = refusal; turned = turned.turned.counted; fits = fits refusal turned.turned.names; found = (_, turned.turned.one) })
  refusal_counts rows key v v' old new (Worn row version) worn other = inr (given_back _ v' old new worn.handed worn.freed (inr (row, version, worn)) worn.back)
  refusal_counts rows key v v' old new (Unripe read stamp) unripe other = inr (given_back _ v' old new unripe.handed unripe.freed (inl (read, stamp, unripe)) unripe.back)
  refusal_counts rows key v v' old new Memory wants other = absurd (other refl)

-- ---- an unbind

pub unbind_counts : (rows key : ℕ) (v v' : View Part) (old new : EntrySeat) (found : Option (ℕ × Receipt)) (done : Bool) → done ≡ is_some found
    → IfSome found (λ (p : ℕ × Receipt). Unbinds rows key p.0 v old p.1 v' new) → IfNone found (FindsUnbound rows key v old v' new) → UnbindCounts done (ledger_of old) (ledger_of new)
unbind_counts rows key v v' old new (Some p) done is some none = subst (λ (b : Bool). UnbindCounts b (ledger_of old) (ledger_of new)) (sym is)
    (subst (λ (l : SeatLedger). CountsOneFree l (ledger_of new)) (ap ledger_in some.made.counts) (_, some.frees.frees.free))
unbind_counts rows key v v' old new None done is some none = subst (λ (b : Bool). UnbindCounts b (ledger_of old) (ledger_of new)) (sym is) none.ledger

-- ---- a result of which something is known where it is an answer

pub refused_ends : {E : Type 0} (ended : Result Bool E) (Other : Type 0) (P : Bool → Type 0) → IfOk ended (λ done. done ≡ false) → OnOk ended Other → (Other → P false) → IfOk ended P
refused_ends (Ok done) Other P is other so = subst P (sym is) (so other)
refused_ends (Err e) Other P is other so = tt
