-- Own: what contracts see of an item outside its keg. Which state it is in is what its body's phase says.
use Rattle.std.specs.Prelude.{◌≡◌, ℕ, Bool, true, false, Option, Some, None}
use Rattle.std.proofs.Common.{refl, subst}
use Rattle.uma_life.specs.declared.states.Cached.{Cached}
use Rattle.uma_life.specs.declared.states.Live.{Live}
use Rattle.uma_life.specs.declared.states.Outside.{Outside}
use Rattle.uma_life.specs.declared.tally.Tally.{Tally}
use Rattle.uma_life.specs.Live.{live_body, live_zone}
use Rattle.uma_life.specs.Moves.{Finishes}
use Rattle.uma_life.specs.Ticket.{ticket_zone}
use Rattle.uma_life.specs.Trail.{IsAt, is_built, outside_phase}

module _ {T : Type 0} {g : _} where
  abbrev pub outside_tally : Outside T g → Tally
  outside_tally item = (g.life item.body).tally

  abbrev pub is_live : Outside T g → Bool
  is_live item = is_built (g.life item.body).phase

  -- what its phase says, as it stands on its trail
  abbrev pub stands_so : (item : Outside T g) (built : Bool) → is_live item ≡ built → IsAt (outside_phase built (ticket_zone item.ticket)) (g.life item.body)
  stands_so item built is = subst (λ (b : Bool). IsAt (outside_phase b (ticket_zone item.ticket)) (g.life item.body)) is item.at

  abbrev pub cached_where : (item : Outside T g) (built : Bool) → is_live item ≡ built → Option (Cached T g)
  cached_where item true is = None
  cached_where item false is = Some (record { body = item.body; ticket = item.ticket; numbered = item.numbered; at = stands_so item false is; of_origin = item.of_origin })

  abbrev pub live_where : (item : Outside T g) (built : Bool) → is_live item ≡ built → Option (Live T g)
  live_where item true is = Some (record { body = item.body; ticket = item.ticket; numbered = item.numbered; at = stands_so item true is; of_origin = item.of_origin })
  live_where item false is = None

  -- the cached item that it is, where it isn't built
  abbrev pub cached_in : Outside T g → Option (Cached T g)
  cached_in item = cached_where item (is_live item) refl

  -- the live item that it is, where it is built
  abbrev pub live_in : Outside T g → Option (Live T g)
  live_in item = live_where item (is_live item) refl

  -- it is this cached item
  pub record IsCachedItem (cached : Cached T g) (item : Outside T g) : Type 0 where
    pub state : is_live item ≡ false
    pub same : cached_in item ≡ Some cached

  -- it is this live item
  pub record IsLiveItem (live : Live T g) (item : Outside T g) : Type 0 where
    pub state : is_live item ≡ true
    pub same : live_in item ≡ Some live

  -- The live item that it was passed `dtor`, and is this cached one. `leaves` is what the hooks say that `dtor` leaves of a body in a zone.
  pub record FinishesOutside (leaves : T → ℕ → T → Type 0) (was is : Outside T g) : Type 0 where
    pub live : Live T g
    pub cached : Cached T g
    pub before : IsLiveItem live was
    pub after : IsCachedItem cached is
    pub finishes : Finishes live (leaves (live_body live) (live_zone live)) cached
