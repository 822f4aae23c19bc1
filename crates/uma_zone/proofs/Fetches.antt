-- What a fetch of a zone's keg comes to for its seat: the items of one fetch, or a refusal that names the zone's own numbers.
use Rattle.std.proofs.Common.{◌≡◌, ◌≤◌, ℕ, inl, inr, List, [], ◌∷◌, ◌++◌, length, refl, Result, Ok, Err, IfOk, IfErr, OnErr, ◌∙◌, sym, ap, subst}
use Rattle.deed_book.specs.FailViews.{cause}
use Rattle.zone_stats.specs.declared.refusal.Refusal.{Refusal}
use Rattle.zone_stats.specs.declared.refusal.Refusal.TheVariants.{AtLimit, Reserved, Full, Init, Ctor}
use Rattle.uma_life.specs.declared.states.Cached.{Cached}
use Rattle.uma_keg.specs.declared.keg.Keg.{Keg}
use Rattle.uma_keg.specs.declared.fetch.FetchAsk.{FetchAsk}
use Rattle.uma_keg.specs.declared.fetch.FetchRefused.{FetchRefused}
use Rattle.uma_keg.specs.declared.fetch.FetchRefused.TheVariants.{Refused}
use Rattle.uma_keg.specs.Keg.{places_in, table_in, reserve_in, hooks_in}
use Rattle.uma_keg.specs.Fetched.{Fetches, FetchesInto, RefusesFetch, NamesWhatItFound}
use Rattle.uma_seat.specs.declared.seat.SeatCache.{SeatCache}
use Rattle.uma_seat.specs.Fetches.{CountsEnd}
use Rattle.uma_seat.specs.Seat.{seat_domain, top_of, ledger_of, fetches_of, IsSameSeat}
use Rattle.locked_keg.specs.Ends.{end_of, fetch_cause}
use Rattle.uma_zone.specs.declared.zone.Zone.{Zone}
use Rattle.uma_zone.specs.Zone.{zone_home, zone_hooks, zone_index, zone_cap, zone_reserve}
use Rattle.uma_zone.specs.Alloc.{Names}
use Rattle.uma_zone.specs.Fetch.{HasFetched, FetchTurnsAway}

module _ {T K H P : Type 0} {g k h : _} where
  names_of : (zone : Zone T K H P g k h) (keg : Keg T K g k) (hooks : K) (ask : FetchAsk) (refusal : Refusal) → ask.zone ≡ zone_index zone → hooks ≡ zone_hooks zone → reserve_in keg ≡ zone_reserve zone → (places_in keg).cap ≡ zone_cap zone → NamesWhatItFound keg hooks ask (Refused refusal)
      → Names zone ask.reserve refusal
  names_of zone keg hooks ask (AtLimit out limit) here ours kept slabs found = (found.2, found.3)
  names_of zone keg hooks ask (Reserved free reserve) here ours kept slabs found = (found.0 ∙ kept, found.1, found.2, found.3)
  names_of zone keg hooks ask (Full most made) here ours kept slabs found = found.0 ∙ slabs
  names_of zone keg hooks ask (Init code) here ours kept slabs found = elim found [
    | inl by_keg ↦ (hooks_in keg, by_keg.1.0, 0, inl refl, by_keg.1.2)
    | inr by_zone ↦ (hooks, by_zone.1, ask.zone, inr (here, ours), by_zone.2)
  ]
  names_of zone keg hooks ask (Ctor code) here ours kept slabs found = found

  -- what a fetch asks for, as the seat after it tells
  asked : (zone : Zone T K H P g k h) (old new : SeatCache T H P g h) (ask : FetchAsk)
      → ask.zone ≡ zone_index zone → ask.most ≡ (top_of old).room → (top_of new).room ≡ (top_of old).room → ask.domain ≡ seat_domain old → IsSameSeat old new
      → ask ≡ record { zone = zone_index zone; most = (top_of new).room; reserve = ask.reserve; domain = seat_domain new }
  asked zone old new ask here most room own same =
      let many = most ∙ sym room in
      let near = own ∙ sym (ap (λ (s : _). s.domain) same.0) in
      λ i. record { zone = here i; most = many i; reserve = ask.reserve; domain = near i }

  -- a fetch that was refused turns its request away, by the numbers of the zone
  pub turned_away : (zone : Zone T K H P g k h) (old new : SeatCache T H P g h) (keg is : Keg T K g k) (ask : FetchAsk) (end : Result ℕ FetchRefused) (refusal : Refusal)
      → table_in keg ≡ (zone_home zone).book → reserve_in keg ≡ zone_reserve zone → (places_in keg).cap ≡ zone_cap zone
      → ask.zone ≡ zone_index zone → ask.most ≡ (top_of old).room → (top_of new).room ≡ (top_of old).room → ask.domain ≡ seat_domain old → IsSameSeat old new
      → OnErr end ((top_of new).items ≡ []) → fetches_of new ≡ fetches_of old ++ fetch_cause end ∷ [] → CountsEnd (ledger_of old) (ledger_of new) (end_of end) → IfErr end (RefusesFetch keg (zone_hooks zone) ask is) → IfErr end (NamesWhatItFound keg (zone_hooks zone) ask) → end ≡ Err (Refused refusal)
      → FetchTurnsAway zone ask.reserve refusal old new
  turned_away zone old new keg is ask end refusal book kept slabs here most room own same none listed counted refused named ended = record {
    none = subst (λ (r : Result ℕ FetchRefused). OnErr r ((top_of new).items ≡ [])) ended none;
    fetches = subst (λ (r : Result ℕ FetchRefused). fetches_of new ≡ fetches_of old ++ fetch_cause r ∷ []) ended listed;
    counted = subst (λ (r : Result ℕ FetchRefused). CountsEnd (ledger_of old) (ledger_of new) (end_of r)) ended counted;
    one = record {
      was = keg;
      is = is;
      of_zone = book;
      kept = kept;
      refuses = subst (λ (a : FetchAsk). RefusesFetch keg (zone_hooks zone) a is (Refused refusal)) (asked zone old new ask here most room own same)
          (subst (λ (r : Result ℕ FetchRefused). IfErr r (RefusesFetch keg (zone_hooks zone) ask is)) ended refused);
    };
    names = names_of zone keg (zone_hooks zone) ask refusal here refl kept slabs (subst (λ (r : Result ℕ FetchRefused). IfErr r (NamesWhatItFound keg (zone_hooks zone) ask)) ended named);
  }

  -- a fetch that gave some was one of the zone's keg, as that stood under its lock
  pub has_fetched : (zone : Zone T K H P g k h) (old new : SeatCache T H P g h) (was is : Keg T K g k) (ask : FetchAsk) (end : Result ℕ FetchRefused) (count : ℕ)
      → table_in was ≡ (zone_home zone).book → reserve_in was ≡ zone_reserve zone
      → ask.zone ≡ zone_index zone → ask.most ≡ (top_of old).room → (top_of new).room ≡ (top_of old).room → ask.domain ≡ seat_domain old → IsSameSeat old new
      → IfOk end (λ n. FetchesInto was (zone_hooks zone) ask n [] (top_of new).items is) → fetches_of new ≡ fetches_of old ++ fetch_cause end ∷ [] → CountsEnd (ledger_of old) (ledger_of new) (end_of end) → end ≡ Ok count
      → HasFetched zone ask.reserve old new
  has_fetched zone old new was is ask end count book kept here most room own same fetched listed counted ended =
      let into : FetchesInto was (zone_hooks zone) ask count [] (top_of new).items is = subst (λ (r : Result ℕ FetchRefused). IfOk r (λ n. FetchesInto was (zone_hooks zone) ask n [] (top_of new).items is)) ended fetched in
      let items : List (Cached T g) = (top_of new).items in
      let all : items ≡ into.items = into.pushed in
      record {
        some = subst (λ (l : List (Cached T g)). 1 ≤ length l) (sym all) into.fetches.some;
        one = record {
          was = was;
          is = is;
          of_zone = book;
          kept = kept;
          fetches = subst (λ (a : FetchAsk). Fetches was (zone_hooks zone) a items is) (asked zone old new ask here most room own same) (subst (λ (l : List (Cached T g)). Fetches was (zone_hooks zone) ask l is) (sym all) into.fetches);
        };
        fetches = subst (λ (r : Result ℕ FetchRefused). fetches_of new ≡ fetches_of old ++ fetch_cause r ∷ []) ended listed
            ∙ ap (λ (n : ℕ). fetches_of old ++ cause 6 n 0 ∷ []) (sym (ap length all ∙ into.counted));
        ledger = subst (λ (r : Result ℕ FetchRefused). CountsEnd (ledger_of old) (ledger_of new) (end_of r)) ended counted;
      }
