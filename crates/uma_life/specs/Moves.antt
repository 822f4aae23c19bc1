-- What each call makes of an item, from its keg to its use and back.
use Rattle.std.specs.Prelude.{◌≡◌, ◌≢◌, ℕ, List, Option, Some, None, Result, IfOk, IfErr, IsOkAnd}
use Rattle.deed_book.specs.declared.deed.Deed.{Deed}
use Rattle.deed_book.specs.Deed.{no_of, zone_of, labelled}
use Rattle.uma_life.specs.declared.hooks.Body.{Ghosts}
use Rattle.uma_life.specs.declared.tally.BodyPhase.{BodyPhase}
use Rattle.uma_life.specs.declared.tally.BodyPhase.TheVariants.{Built}
use Rattle.uma_life.specs.declared.states.Cached.{Cached}
use Rattle.uma_life.specs.declared.states.Live.{Live}
use Rattle.uma_life.specs.declared.hooks.BringRefused.{BringRefused}
use Rattle.uma_life.specs.declared.states.Stored.{Stored}
use Rattle.uma_life.specs.declared.states.Ticket.{Ticket}
use Rattle.uma_life.specs.Bring.{RefusesToBring}
use Rattle.uma_life.specs.Cached.{cached_body, cached_zone, cached_ticket, cached_table}
use Rattle.uma_life.specs.Hook.{KegInit, ZoneInit, Ctor, Dtor, ZoneFini, after, IsCode}
use Rattle.uma_life.specs.Life.{Life, raw_life}
use Rattle.uma_life.specs.Live.{live_body, live_zone, live_ticket}
use Rattle.uma_life.specs.Stored.{stored_body, stored_no, stored_origin}
use Rattle.uma_life.specs.Ticket.{ticket_deed, ticket_no, ticket_zone, ticket_domain, ticket_table}
use Rattle.uma_life.specs.Trail.{IsAt}

-- ---- a body and its ticket

-- It is this body. It agrees with the ticket in number and origin, and stands at the phase.
pub record ShowsBody {T : Type 0} (life_of : T → Life) (origin_of : T → List ℕ) (held : T) (ticket : Ticket) (phase : BodyPhase) (shown : T) : Type 0 where
  pub body : shown ≡ held
  pub number : (life_of shown).no ≡ ticket_no ticket
  pub at : IsAt phase (life_of shown)
  pub origin : origin_of shown ≡ (ticket_table ticket).origin

-- The two can be an item that is built: they agree in number and origin, and the body stands so.
pub record Agree {T : Type 0} (life_of : T → Life) (origin_of : T → List ℕ) (body : T) (ticket : Ticket) : Type 0 where
  pub number : (life_of body).no ≡ ticket_no ticket
  pub at : IsAt (Built (ticket_zone ticket)) (life_of body)
  pub origin : origin_of body ≡ (ticket_table ticket).origin

module _ {T : Type 0} {g : Ghosts T} where
  -- they are those of the item
  pub record ComesApart (item : Live T g) (parts : T × Ticket) : Type 0 where
    pub body : parts.0 ≡ live_body item
    pub ticket : parts.1 ≡ live_ticket item
    pub agree : Agree g.life g.origin parts.0 parts.1

  -- ---- its keg and its zone

  -- The item was made of a number, after keg_init, or not: a body was refused, or there was no memory.
  pub record Brings (no : ℕ) (hooks_origin : List ℕ) (makes : T → Type 0) (refusal : T → Option ℕ) (leaves : T → T → Type 0) (answer : Result (Stored T g) BringRefused) : Type 0 where
    pub number : IfOk answer (λ item. stored_no item ≡ no)
    pub origin : IfOk answer (λ item. stored_origin item ≡ hooks_origin)
    pub brought : IfOk answer (λ item. g.life (stored_body item) ≡ after KegInit (raw_life no))
    pub accepted : IfOk answer (λ _. (raw : T) × (g.life raw ≡ raw_life no) × (refusal raw ≡ None))
    pub left : IfOk answer (λ item. (raw : T) × (g.life raw ≡ raw_life no) × makes raw × (refusal raw ≡ None) × leaves raw (stored_body item))
    pub refused : IfErr answer (RefusesToBring (λ code. (raw : T) × (g.life raw ≡ raw_life no) × (refusal raw ≡ Some code)))

  -- The item has the deed, labelled with this domain, and passed zone_init, but for zone 0. Or that was refused, and both are back.
  pub record Lends (was : Stored T g) (by_deed : Deed) (of_domain : ℕ) (refusal : Option ℕ) (leaves : T → Type 0) (answer : Result (Cached T g) (Stored T g × Deed × ℕ)) : Type 0 where
    pub deed : IfOk answer (λ item. ticket_deed (cached_ticket item) ≡ labelled by_deed of_domain)
    pub domain : IfOk answer (λ item. ticket_domain (cached_ticket item) ≡ of_domain)
    pub primary : zone_of by_deed ≡ 0 → IsOkAnd answer (λ item. cached_body item ≡ stored_body was)
    pub entered : zone_of by_deed ≢ 0 → IfOk answer (λ item. g.life (cached_body item) ≡ after (ZoneInit (zone_of by_deed)) (g.life (stored_body was)))
    pub left : zone_of by_deed ≢ 0 → IfOk answer (λ item. leaves (cached_body item))
    pub accepted : zone_of by_deed ≢ 0 → IfOk answer (λ _. refusal ≡ None)
    pub refused : IfErr answer (λ (item, back, code). (zone_of by_deed ≢ 0) × (refusal ≡ Some code) × IsCode code)
    pub unchanged : IfErr answer (λ (item, back, code). (item ≡ was) × (back ≡ by_deed))

  -- The item is its keg's again, and passed zone_fini, but for zone 0.
  pub record GivesBack (was : Cached T g) (leaves : T → Type 0) (item : Stored T g) (back : Deed) : Type 0 where
    pub number : stored_no item ≡ no_of back
    pub deed : back ≡ ticket_deed (cached_ticket was)
    pub origin : stored_origin item ≡ (cached_table was).origin
    pub primary : cached_zone was ≡ 0 → stored_body item ≡ cached_body was
    pub passed : cached_zone was ≢ 0 → g.life (stored_body item) ≡ after (ZoneFini (cached_zone was)) (g.life (cached_body was))
    pub left : cached_zone was ≢ 0 → leaves (stored_body item)

  -- ---- its use

  -- The item passed ctor, or that was refused, and it is back.
  pub record Builds (was : Cached T g) (refusal : Option ℕ) (leaves : T → Type 0) (answer : Result (Live T g) (Cached T g × ℕ)) : Type 0 where
    pub ticket : IfOk answer (λ item. live_ticket item ≡ cached_ticket was)
    pub built : IfOk answer (λ item. g.life (live_body item) ≡ after (Ctor (cached_zone was)) (g.life (cached_body was)))
    pub left : IfOk answer (λ item. leaves (live_body item))
    pub accepted : IfOk answer (λ _. refusal ≡ None)
    pub refused : IfErr answer (λ (item, code). (refusal ≡ Some code) × IsCode code)
    pub unchanged : IfErr answer (λ (item, code). item ≡ was)

  -- the item passed dtor
  pub record Finishes (was : Live T g) (leaves : T → Type 0) (item : Cached T g) : Type 0 where
    pub ticket : cached_ticket item ≡ live_ticket was
    pub finished : g.life (cached_body item) ≡ after (Dtor (live_zone was)) (g.life (live_body was))
    pub left : leaves (cached_body item)
