-- An item outside its keg is one item, in the state that its body's phase says.
use Rattle.std.proofs.Common.{◌≡◌, ◌==◌, ℕ, Bool, true, false, cond, Some, refl, ap, ◌∙◌, subst}
use Rattle.uma_life.specs.declared.tally.BodyPhase.TheVariants.{Kept, Zoned}
use Rattle.uma_life.specs.declared.states.Cached.{Cached}
use Rattle.uma_life.specs.declared.states.Live.{Live}
use Rattle.uma_life.specs.declared.states.Outside.{Outside}
use Rattle.uma_life.specs.Hook.{Dtor, after}
use Rattle.uma_life.specs.Life.{Life}
use Rattle.uma_life.specs.Outside.{is_live, stands_so, cached_where, live_where, IsCachedItem, IsLiveItem, FinishesOutside}
use Rattle.uma_life.specs.Ticket.{ticket_zone}
use Rattle.uma_life.specs.Trail.{IsAt, is_built, outside_phase}
use Rattle.uma_life.proofs.Same.{cached_same, live_same}

base_unbuilt : (is_primary : Bool) (zone : ℕ) → is_built (cond is_primary Kept (Zoned zone)) ≡ false
base_unbuilt true zone = refl
base_unbuilt false zone = refl

-- each phase outside tells its state
tells : (built : Bool) (zone : ℕ) → is_built (outside_phase built zone) ≡ built
tells true zone = refl
tells false zone = base_unbuilt (zone == 0) zone

pub told : (built : Bool) (zone : ℕ) (life : Life) → IsAt (outside_phase built zone) life → is_built life.phase ≡ built
told built zone life at = ap is_built at.stands ∙ tells built zone

module _ {T : Type 0} {g : _} where
  cached_by : (x : Outside T g) (item : Cached T g) (built : Bool) (is : is_live x ≡ built) → built ≡ false → x.body ≡ item.body → x.ticket ≡ item.ticket → cached_where x built is ≡ Some item
  cached_by x item true is unbuilt body ticket = absurd (cc)
  cached_by x item false is unbuilt body ticket = ap Some (cached_same _ item body ticket)

  -- the item that has its body and its ticket is the one that it is
  pub cached_of : (x : Outside T g) (item : Cached T g) → x.body ≡ item.body → x.ticket ≡ item.ticket → IsCachedItem item x
  cached_of x item body ticket =
      let unbuilt : is_live x ≡ false = ap (λ b. is_built (g.life b).phase) body ∙ told false (ticket_zone item.ticket) (g.life item.body) item.at in
      record { state = unbuilt; same = cached_by x item (is_live x) refl unbuilt body ticket }

  live_by : (x : Outside T g) (item : Live T g) (built : Bool) (is : is_live x ≡ built) → built ≡ true → x.body ≡ item.body → x.ticket ≡ item.ticket → live_where x built is ≡ Some item
  live_by x item true is built_so body ticket = ap Some (live_same _ item body ticket)
  live_by x item false is built_so body ticket = absurd (cc)

  pub live_of : (x : Outside T g) (item : Live T g) → x.body ≡ item.body → x.ticket ≡ item.ticket → IsLiveItem item x
  live_of x item body ticket =
      let built_so : is_live x ≡ true = ap (λ b. is_built (g.life b).phase) body ∙ told true (ticket_zone item.ticket) (g.life item.body) item.at in
      record { state = built_so; same = live_by x item (is_live x) refl built_so body ticket }

  -- the live item that it is, where its phase says so
  unfoldable pub live_there : (x : Outside T g) → is_live x ≡ true → Live T g
  live_there x built_so = record { body = x.body; ticket = x.ticket; numbered = x.numbered; at = stands_so x true built_so; of_origin = x.of_origin }

  -- and the cached one
  unfoldable pub cached_there : (x : Outside T g) → is_live x ≡ false → Cached T g
  cached_there x unbuilt = record { body = x.body; ticket = x.ticket; numbered = x.numbered; at = stands_so x false unbuilt; of_origin = x.of_origin }

  pub finishes : (leaves : T → ℕ → T → Type 0) (was is : Outside T g) (zone : ℕ) → is_live was ≡ true → zone ≡ ticket_zone was.ticket → is.ticket ≡ was.ticket → g.life is.body ≡ after (Dtor zone) (g.life was.body) → leaves was.body zone is.body → FinishesOutside leaves was is
  unfolding live_there cached_there
  finishes leaves was is zone built_so own ticket passed left =
      let unbuilt : is_live is ≡ false = ap (λ (l : Life). is_built l.phase) passed ∙ base_unbuilt (zone == 0) zone in
      record {
        live = live_there was built_so;
        cached = cached_there is unbuilt;
        before = live_of was _ refl refl;
        after = cached_of is _ refl refl;
        finishes = record {
          ticket = ticket;
          finished = passed ∙ ap (λ (z : ℕ). after (Dtor z) (g.life was.body)) own;
          left = subst (λ (z : ℕ). leaves was.body z is.body) own left;
        };
      }
