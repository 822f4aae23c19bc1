-- How the steps of a bind and of an unbind make up the whole.
use Rattle.std.proofs.Common.{◌≡◌, ℕ, ◌%◌, Option, Some, None, List, [], ◌∷◌, ◌++◌, ◌∙◌, sym, ap, subst}
use Rattle.smr_clock.specs.declared.view.View.{View}
use Rattle.deed_book.specs.declared.deed.Cause.{Cause}
use Rattle.deed_book.specs.declared.fail_book.FailShare.{FailShare}
use Rattle.zone_stats.specs.declared.ledger.SeatLedger.{SeatLedger}
use Rattle.zone_stats.specs.LedgerSteps.{CountsAlloc, CountsTurned}
use Rattle.uma_domain.specs.Lists.{IsRaised}
use Rattle.uma_seat.specs.Counts.{ledger_in, fetches_in}
use Rattle.uma_seat.specs.Fetches.{refusal_cause}
use Rattle.uma_seat.specs.Seat.{ledger_of, shelf_of, misses_of, IsSameSeat, KeepsFreed}
use Rattle.uma_life.specs.Live.{live_ticket}
use Rattle.uma_life.specs.Ticket.{ticket_no}
use Rattle.uma_zone.specs.OwnDomain.{FindsNothing}
use Rattle.uma_zone.specs.Alloc.{Serves}
use Rattle.uma_zone.specs.Flushed.{HasLastOf}
use Rattle.name_rows.specs.declared.entry.Entry.{Entry}
use Rattle.name_rows.specs.declared.names.Part.{Part}
use Rattle.name_rows.specs.declared.names.Bound.{Bound}
use Rattle.name_rows.specs.declared.names.Record.{Record}
use Rattle.name_rows.specs.declared.writing.Unripe.{Unripe as Unripe'}
use Rattle.name_rows.specs.declared.words.Words.{Words}
use Rattle.name_rows.specs.Entries.{OnWords, entry_state}
use Rattle.name_rows.specs.Reading.{IsNewest, bound_to}
use Rattle.name_rows.specs.Ripening.{IsUnripe}
use Rattle.name_rows.specs.Roots.{kept_in}
use Rattle.name_cache.specs.declared.binding.BindRefused.{BindRefused}
use Rattle.name_cache.specs.declared.binding.BindRefused.TheVariants.{Zone, Worn, Unripe, Memory}
use Rattle.name_cache.specs.declared.locked_row.LockedRow.{LockedRow}
use Rattle.name_cache.specs.declared.parts.EntryParts.{EntryParts}
use Rattle.name_cache.specs.declared.binding.Rebound.TheVariants.{Done, Refused}
use Rattle.name_cache.specs.declared.binding.Receipt.{Receipt}
use Rattle.name_cache.specs.Types.{ZoneOfEntries, EntrySeat, LiveEntry}
use Rattle.name_cache.specs.Known.{known_in, StillKnows, Meets, KnowsBound, KnowsTaken}
use Rattle.name_cache.specs.Parts.{words_of}
use Rattle.name_cache.specs.Deferred.{FreesBound}
use Rattle.name_cache.specs.LockedRow.{IsOutStamped, IsSameRow, MeetsRow}
use Rattle.name_cache.specs.Room.{entry_ask, MakesRoom}
use Rattle.name_cache.specs.Bind.{Binds, RefusesToBind, HandsBack, KeepsRow}
use Rattle.name_cache.specs.Unbind.{Unbinds, FindsUnbound}
use Rattle.name_cache.specs.Rebound.{HandsOutNone, HasRebound, HasTakenOut, HasFoundNone, FreesParts, FreesEvicted}
use Rattle.name_cache.proofs.Rooms.{allocates, all_gone, flushed_still, usable_same}
use Rattle.name_cache.proofs.Telling.{still_then, still_host, meets_from, meets_to}

-- what the row bound before is freed with its stamp
evicted_so : (content : Option Bound) (out : Option EntryParts) (v v' : View Part) (old new : EntrySeat) → IsOutStamped content out → FreesEvicted v old out v' new → FreesBound v old content v' new
evicted_so None None v v' old new is frees = frees
evicted_so None (Some parts) v v' old new is frees = absurd is
evicted_so (Some b) None v v' old new is frees = absurd is
evicted_so (Some b) (Some parts) v v' old new is frees = record {
  live = frees.live;
  goal = is.0;
  entry = ap (λ (e : Entry). kept_in e.words) frees.entry ∙ is.1;
  frees = frees.frees;
}

-- ---- a bind, whose seat had room made first: old, then one, two after the row was left, and new after the free
module _ (zone : ZoneOfEntries) (rows key value : ℕ) (v v1 v2 v3 : View Part) (old one two new : EntrySeat) (made : MakesRoom old one) (knew : StillKnows v v1) where
  pub binds : (receipt : Receipt) (out : Option EntryParts) → HasRebound zone rows key value v1 one (Done receipt out) v2 two → CountsAlloc (ledger_of one) (ledger_of two) → KeepsFreed one two → HasLastOf (shelf_of one) (shelf_of two)
      → FreesEvicted v2 two out v3 new → v3.host ≡ v2.host → Binds zone rows key value v old receipt v3 new
  binds receipt out h alloc still last frees host =
      let knows = still_host v2 v3 host in
      let ends = h.ends in
      record {
        row = ends.row ∙ h.numbered;
        before = ends.before;
        met = meets_to v v2 v3 receipt.row ends.before (meets_from v h.between v2 receipt.row ends.before (still_then v v1 h.between knew h.knew) ends.met) knows;
        next = ends.next;
        low = ends.low;
        handed = h.hands_out.handed;
        after = two;
        takes = allocates old one two made zone h.hands_out.handed h.hands_out.served alloc still last;
        knows = subst (λ (n : ℕ). KnowsBound (record { entry = n; key = key; value = value }) receipt (known_in v3)) (ap ticket_no h.hands_out.ticket)
            (subst (λ (l : List Record). KnowsBound (record { entry = ticket_no h.parts.ticket; key = key; value = value }) receipt l) (sym (ap (λ (p : Part). p.known) host)) ends.knows);
        left = v2;
        told = host;
        evicts = evicted_so ends.before.content out v2 v3 two new ends.out_before frees;
      }

  -- the row is as it was
  keeps_row : (row : ℕ) (between : View Part) (was is : LockedRow) → StillKnows v1 between → was.row.number ≡ row → IsSameRow was is → MeetsRow between was v2 → v3.host ≡ v2.host → KeepsRow row v v3
  keeps_row row between was is knew_too numbered same met host =
      let at : Meets between row met.last v2 = subst (λ (n : ℕ). Meets between n met.last v2) numbered met.meets in
      record {
        last = met.last;
        met = meets_to v v2 v3 row met.last (meets_from v between v2 row met.last (still_then v v1 between knew knew_too) at) (still_host v2 v3 host);
        newest = subst (λ (l : List Record). IsNewest l met.last) (sym (ap (λ (p : Part). p.known) host)) met.newest;
        stays = record { was = was; is = is; numbered = numbered; is_last = met.is_last; same = same };
      }

  module _ (entry : EntryParts) (frees : FreesParts v2 two entry v3 new) (alloc : CountsAlloc (ledger_of one) (ledger_of two)) (still : KeepsFreed one two) (last : HasLastOf (shelf_of one) (shelf_of two)) (host : v3.host ≡ v2.host) where
    hands_back : (handed : LiveEntry) → Serves zone entry_ask one handed two → live_ticket frees.live ≡ live_ticket handed → HandsBack zone old handed frees.live v3 new
    hands_back handed served ticket = record {
      after = two;
      takes = allocates old one two made zone handed served alloc still last;
      ticket = ticket;
      left = v2;
      told = host;
      frees = frees.frees;
    }

    pub refuses : (refused : BindRefused) → HasRebound zone rows key value v1 one (Refused entry refused) v2 two → RefusesToBind zone rows key v old v3 new refused
    unfolding keeps_row
    refuses (Zone refusal) h = absurd h.ends.why
    refuses Memory h = absurd h.ends.why
    refuses (Unripe read stamp) h =
        let e = h.ends in
        let why : Unripe' = record { read = read; stamp = stamp } in
        let same : words_of frees.live ≡ entry.entry.words = ap (λ (x : Entry). x.words) frees.entry in
        record {
          kept = keeps_row (key % rows) h.between h.was h.is h.knew h.numbered e.same e.met host;
          handed = h.hands_out.handed;
          freed = frees.live;
          back = hands_back h.hands_out.handed h.hands_out.served (frees.ticket ∙ e.item.ticket ∙ h.hands_out.ticket);
          unripe = subst (λ (w : Option Words). OnWords (IsUnripe why) w (words_of frees.live)) h.hands_out.words
              (subst (λ (w : Option Words). OnWords (IsUnripe why) h.parts.entry.words w) (sym same) e.why);
        }
    refuses (Worn row version) h =
        let e = h.ends in
        let why = e.why in
        record {
          of_key = why.1 ∙ h.numbered;
          worn = why.3;
          kept = keeps_row row h.between h.was h.is h.knew (sym why.1) e.same e.met host;
          same = e.met.version ∙ sym why.2;
          handed = h.hands_out.handed;
          freed = frees.live;
          back = hands_back h.hands_out.handed h.hands_out.served (frees.ticket ∙ e.item.ticket ∙ h.hands_out.ticket);
          clean = ap (λ (x : Entry). entry_state x) frees.entry ∙ why.0;
        }

  -- the zone handed out nothing
  pub refuses_none : (refused : BindRefused) → IsSameSeat old one → KeepsFreed one two → HasLastOf (shelf_of one) (shelf_of two) → HandsOutNone zone one two refused → RefusesToBind zone rows key v old v2 two refused
  refuses_none (Zone refusal) as_one still last t = record {
    turned = record {
      empty = sym (usable_same old one as_one made.top made.plain) ∙ t.empty;
      still = t.still;
      looked = subst (λ (n : ℕ). FindsNothing zone.domains n) (ap (λ (s : _). s.domain) as_one.0) t.looked;
      missed = subst (λ (m : FailShare). IsRaised m (misses_of two)) made.misses t.missed;
      fetches = t.fetches ∙ ap (λ (l : List Cause). l ++ refusal_cause refusal ∷ []) (ap fetches_in made.counts);
      counted = subst (λ (l : SeatLedger). CountsTurned l (ledger_of two) refusal) (ap ledger_in made.counts) t.counted;
      one = t.one;
      names = t.names;
    };
    freed = still ∙ made.freed;
    shelf = flushed_still (shelf_of one) (shelf_of two) made.shelf last;
  }
  refuses_none Memory as_one still last t = record {
    ledger = t.ledger ∙ ap ledger_in made.counts;
    usable = t.still ∙ sym (sym (usable_same old one as_one made.top made.plain) ∙ t.empty);
    freed = still ∙ made.freed;
    shelf = all_gone (shelf_of old) (shelf_of two) (flushed_still (shelf_of one) (shelf_of two) made.shelf last);
  }
  refuses_none (Worn row version) as_one still last t = absurd t
  refuses_none (Unripe read stamp) as_one still last t = absurd t

-- ---- an unbind: one is the seat once it has room, and new after the free
module _ (rows key value : ℕ) (v v1 v2 v3 : View Part) (old one new : EntrySeat) (made : MakesRoom old one) (knew : StillKnows v v1) where
  pub unbinds : (receipt : Receipt) (parts : EntryParts) → HasTakenOut rows key value v1 receipt parts v2 → FreesParts v2 one parts v3 new → v3.host ≡ v2.host → Unbinds rows key value v old receipt v3 new
  unbinds receipt parts h frees host =
      let u = h.ends in
      record {
        row = u.row ∙ h.numbered;
        before = u.before;
        met = meets_to v v2 v3 receipt.row u.before (meets_from v v1 v2 receipt.row u.before knew u.met) (still_host v2 v3 host);
        bound = u.bound;
        content = u.content;
        key_bound = u.key_bound;
        value_bound = u.value_bound;
        next = u.next;
        knows = subst (λ (l : List Record). KnowsTaken key value receipt l) (sym (ap (λ (p : Part). p.known) host)) u.knows;
        room = one;
        made = made;
        left = v2;
        told = host;
        frees = record {
          live = frees.live;
          goal = u.goal;
          entry = ap (λ (e : Entry). kept_in e.words) frees.entry ∙ u.stamped;
          frees = frees.frees;
        };
      }

-- the row doesn't bind the key
pub finds_unbound : (rows key : ℕ) (v v1 v2 : View Part) (old one : EntrySeat) → MakesRoom old one → StillKnows v v1 → HasFoundNone rows key v1 v2 → FindsUnbound rows key v old v2 one
finds_unbound rows key v v1 v2 old one made knew h =
    let m = h.ends.met in
    record {
      last = m.last;
      met = meets_from v v1 v2 (key % rows) m.last knew (subst (λ (n : ℕ). Meets v1 n m.last v2) h.numbered m.meets);
      newest = m.newest;
      unbound = ap (bound_to key) m.content ∙ h.ends.unbound;
      stays = record { was = h.was; is = h.is; numbered = h.numbered; is_last = m.is_last; same = h.ends.same };
      ledger = ap ledger_in made.counts;
      made = made;
    }
