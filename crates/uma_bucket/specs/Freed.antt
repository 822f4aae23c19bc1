-- Own: what contracts see of a freed item, and what it becomes.
use Rattle.std.specs.Prelude.{◌≡◌, ℕ}
use Rattle.uma_life.specs.declared.states.Cached.{Cached}
use Rattle.uma_life.specs.declared.states.Live.{Live}
use Rattle.uma_life.specs.declared.tally.Tally.{Tally}
use Rattle.uma_life.specs.declared.states.Ticket.{Ticket}
use Rattle.uma_life.specs.Hook.{Dtor, after}
use Rattle.uma_life.specs.Cached.{cached_body, cached_ticket}
use Rattle.uma_life.specs.Live.{live_body, live_ticket, live_zone}
use Rattle.uma_bucket.specs.declared.freed.Freed.{Freed}

-- the item as it was freed
abbrev pub freed_item : {T : Type 0} {g : _} → Freed T g → Live T g
freed_item freed = freed.live

-- the item's deed and domain
abbrev pub freed_ticket : {T : Type 0} {g : _} → Freed T g → Ticket
freed_ticket freed = live_ticket (freed_item freed)

-- how often the item passed each hook
abbrev pub freed_tally : {T : Type 0} {g : _} → Freed T g → Tally
freed_tally {g = g} freed = (g.life (live_body (freed_item freed))).tally

-- The freed item became this cached one: it passed `dtor` once, in its zone, and kept its ticket. `leaves` is what the hooks say that `dtor` leaves of a body in a zone.
pub record IsFinished {T : Type 0} {g : _} (leaves : T → ℕ → T → Type 0) (freed : Freed T g) (cached : Cached T g) : Type 0 where
  pub ticket : cached_ticket cached ≡ freed_ticket freed
  pub life : g.life (cached_body cached) ≡ after (Dtor (live_zone (freed_item freed))) (g.life (live_body (freed_item freed)))
  pub left : leaves (live_body (freed_item freed)) (live_zone (freed_item freed)) (cached_body cached)
