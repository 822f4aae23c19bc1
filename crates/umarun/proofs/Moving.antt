-- What a bind and an unbind of a cache do to the usable entries of their seat.
use Rattle.std.proofs.Common.{◌≡◌, ◌≢◌, ◌⊎◌, ℕ, List, [], ◌∷◌, ◌++◌, map, cond, Option, None, Some, Result, Ok, Err, refl, sym, ap, ◌∙◌, inl, inr}
use Rattle.std.proofs.lemmas.List.{append-nil, map-append}
use Rattle.std.specs.Prelude.{Bool, false, IfNone, IfSome, OnOk}
use Rattle.smr_clock.specs.declared.view.View.{View}
use Rattle.uma_life.specs.declared.states.Ticket.{Ticket}
use Rattle.uma_life.specs.Cached.{cached_ticket}
use Rattle.uma_life.specs.Live.{live_ticket}
use Rattle.uma_seat.specs.Row.{stacks_of}
use Rattle.uma_seat.specs.Seat.{usable_of, IsSameSeat, KeepsTop, KeepsPlain}
use Rattle.uma_seat.specs.Stack.{stack_of, stack_at}
use Rattle.uma_zone.specs.Alloc.{TakesUsable}
use Rattle.uma_zone.specs.SafeReuse.{usable_tickets}
use Rattle.name_rows.specs.declared.names.Part.{Part}
use Rattle.name_rows.specs.declared.names.Bound.{Bound}
use Rattle.name_cache.specs.declared.binding.BindRefused.{BindRefused}
use Rattle.name_cache.specs.declared.binding.BindRefused.TheVariants.{Zone, Worn, Unripe, Memory}
use Rattle.name_cache.specs.declared.binding.Receipt.{Receipt}
use Rattle.name_cache.specs.Bind.{Binds, HandsBack, RefusesToBind}
use Rattle.name_cache.specs.Cache.{cache_zone}
use Rattle.name_cache.specs.Deferred.{FreesBound, Frees}
use Rattle.name_cache.specs.Room.{Allocates, MakesRoom}
use Rattle.name_cache.specs.Types.{EntrySeat, LiveEntry}
use Rattle.name_cache.specs.Unbind.{Unbinds, FindsUnbound}
use Rattle.replay_worker.specs.NameCalls.{MovesEntries}
use Rattle.umarun.specs.declared.cache_names.TraceCache.{TraceCache}
use Rattle.umarun.specs.Caches.{CachedEntry, CameIn}

-- what is usable depends on these alone
usable_kept : (old new : EntrySeat) → IsSameSeat old new → KeepsTop old new → KeepsPlain old new → usable_of new ≡ usable_of old
usable_kept old new same top plain = λ k. cond (same.0 k).smr [] (stack_at (stacks_of (plain k)) (same.0 k).domain).items ++ (stack_of (top k)).items

room_kept : (old new : EntrySeat) → MakesRoom old new → usable_of new ≡ usable_of old
room_kept old new made = usable_kept old new made.same made.top made.plain

freed_kept : (v v' : View Part) (old new : EntrySeat) (live : LiveEntry) → Frees v old live v' new → usable_of new ≡ usable_of old
freed_kept v v' old new live frees = usable_kept old new frees.same frees.top frees.plain

evicted_kept : (v v' : View Part) (old new : EntrySeat) (content : Option Bound) → FreesBound v old content v' new → usable_of new ≡ usable_of old
evicted_kept v v' old new None frees = ap usable_of frees
evicted_kept v v' old new (Some b) frees = freed_kept v v' old new frees.live frees.frees

-- ---- where an entry comes from

module _ (kept : TraceCache) where
  -- what was brought, so that these entries are those that were usable and it
  record Brings (old : EntrySeat) (all : List Ticket) : Type 0 where
    brought : List Ticket
    come : (brought ≡ []) ⊎ CameIn kept brought
    are : all ≡ usable_tickets old ++ brought

  behind : (old : EntrySeat) (l : List Ticket) → usable_of old ≡ [] → l ≡ usable_tickets old ++ l
  behind old l none = ap (λ (u : List CachedEntry). map cached_ticket u ++ l) (sym none)

  taken : (old room new : EntrySeat) (item : CachedEntry) (left : List CachedEntry) → usable_of room ≡ usable_of old → TakesUsable (cache_zone kept.cache) false room item left new → Brings old (map cached_ticket (left ++ item ∷ []))
  taken old room new item left same takes =
      let all = left ++ item ∷ [] in
      elim takes [
        | inl own ↦ record {
          brought = [];
          come = inl refl;
          are = sym (ap (map cached_ticket) own.last) ∙ (ap (map cached_ticket) same ∙ sym (append-nil (usable_tickets old)));
        }
        | inr (inl listed) ↦ record {
          brought = map cached_ticket all;
          come = inr (record { items = all; are = refl; from = inl (listed.reused kept.cache.smr) });
          are = behind old (map cached_ticket all) (sym same ∙ listed.empty);
        }
        | inr (inr fetched) ↦ record {
          brought = map cached_ticket all;
          come = inr (record { items = all; are = refl; from = inr (new, fetched.one) });
          are = behind old (map cached_ticket all) (sym same ∙ fetched.empty);
        }
      ]

  -- an entry was handed out, and then one was freed, or none
  moves : (old after new : EntrySeat) (handed : LiveEntry) → Allocates (cache_zone kept.cache) old handed after → usable_of new ≡ usable_of after → MovesEntries (CameIn kept) (usable_tickets old) (usable_tickets new)
  moves old after new handed allocates still =
      let served = allocates.served in
      let b = taken old allocates.room after served.item (usable_of after) (room_kept old allocates.room allocates.made) served.takes in
      record {
        brought = b.brought;
        handed = live_ticket handed ∷ [];
        balance =
            ap (λ (l : List CachedEntry). map cached_ticket l ++ live_ticket handed ∷ []) still
            ∙ (ap (λ (t : Ticket). usable_tickets after ++ t ∷ []) served.built.ticket
            ∙ (sym (map-append cached_ticket (usable_of after) (served.item ∷ [])) ∙ b.are));
        come = b.come;
      }

  -- ---- a bind

  pub bound_moves : (rows key : ℕ) (v v' : View Part) (old new : EntrySeat) (value : ℕ) (receipt : Receipt) → Binds (cache_zone kept.cache) rows key value v old receipt v' new → MovesEntries (CameIn kept) (usable_tickets old) (usable_tickets new)
  bound_moves rows key v v' old new value receipt b = moves old b.after new b.handed b.takes (evicted_kept b.left v' b.after new b.before.content b.evicts)

  given_back : (v' : View Part) (old new : EntrySeat) (handed freed : LiveEntry) → HandsBack (cache_zone kept.cache) old handed freed v' new → MovesEntries (CameIn kept) (usable_tickets old) (usable_tickets new)
  given_back v' old new handed freed back = moves old back.after new handed back.takes (freed_kept back.left v' back.after new freed back.frees)

  turned_moves : (rows key : ℕ) (v v' : View Part) (old new : EntrySeat) (refused : BindRefused) → RefusesToBind (cache_zone kept.cache) rows key v old v' new refused → refused ≢ Memory
      → MovesEntries (CameIn kept) (usable_tickets old) (usable_tickets new)
  turned_moves rows key v v' old new (Zone refusal) turned other = record {
    brought = [];
    handed = [];
    balance = ap (λ (l : List CachedEntry). map cached_ticket l ++ []) (turned.turned.still ∙ sym turned.turned.empty);
    come = inl refl;
  }
  turned_moves rows key v v' old new (Worn row version) worn other = given_back v' old new worn.handed worn.freed worn.back
  turned_moves rows key v v' old new (Unripe read stamp) unripe other = given_back v' old new unripe.handed unripe.freed unripe.back
  turned_moves rows key v v' old new Memory wants other = absurd (other refl)

  pub refused_moves : {E : Type 0} (rows key : ℕ) (v v' : View Part) (old new : EntrySeat) (refused : BindRefused) → RefusesToBind (cache_zone kept.cache) rows key v old v' new refused → (ended : Result Bool E) → OnOk ended (refused ≢ Memory)
      → OnOk ended (MovesEntries (CameIn kept) (usable_tickets old) (usable_tickets new))
  refused_moves rows key v v' old new refused why (Ok done) other = turned_moves rows key v v' old new refused why other
  refused_moves rows key v v' old new refused why (Err e) other = tt

-- ---- an unbind

pub unbind_usable : (rows key : ℕ) (v v' : View Part) (old new : EntrySeat) (found : Option (ℕ × Receipt)) → IfSome found (λ (p : ℕ × Receipt). Unbinds rows key p.0 v old p.1 v' new) → IfNone found (FindsUnbound rows key v old v' new)
    → usable_tickets new ≡ usable_tickets old
unbind_usable rows key v v' old new (Some p) some none =
    ap (map cached_ticket) (freed_kept some.left v' some.room new some.frees.live some.frees.frees ∙ room_kept old some.room some.made)
unbind_usable rows key v v' old new None some none = ap (map cached_ticket) (room_kept old new none.made)
