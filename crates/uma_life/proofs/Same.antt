-- Two items with one body and ticket are one item: what their types know of the body has at most one proof.
use Rattle.std.proofs.Common.{◌≡◌}
use Rattle.std.proofs.Props.{props}
use std.HLevel.{prop→path_p}
use Rattle.uma_life.specs.declared.tally.BodyPhase.TheVariants.{Kept, Built}
use Rattle.uma_life.specs.declared.states.Stored.{Stored}
use Rattle.uma_life.specs.declared.states.Cached.{Cached}
use Rattle.uma_life.specs.declared.states.Live.{Live}
use Rattle.uma_life.specs.Trail.{IsAt}
use Rattle.uma_life.specs.Hook.{base_phase}
use Rattle.deed_book.specs.Deed.{no_of, zone_of, deed_table}

pub stored_same : {T : Type 0} {g : _} (a b : Stored T g) → a.body ≡ b.body → a ≡ b
stored_same {g = g} a b body = λ i. record {
  body = body i;
  kept = prop→path_p (λ j. IsAt Kept (g.life (body j))) (Prim.hlevel props) a.kept b.kept i;
}

pub cached_same : {T : Type 0} {g : _} (a b : Cached T g) → a.body ≡ b.body → a.ticket ≡ b.ticket → a ≡ b
cached_same {g = g} a b body ticket = λ i. record {
  body = body i;
  ticket = ticket i;
  numbered = prop→path_p (λ j. (g.life (body j)).no ≡ no_of (ticket j).deed) (Prim.hlevel props) a.numbered b.numbered i;
  at = prop→path_p (λ j. IsAt (base_phase (zone_of (ticket j).deed)) (g.life (body j))) (Prim.hlevel props) a.at b.at i;
  of_origin = prop→path_p (λ j. g.origin (body j) ≡ (deed_table (ticket j).deed).origin) (Prim.hlevel props) a.of_origin b.of_origin i;
}

pub live_same : {T : Type 0} {g : _} (a b : Live T g) → a.body ≡ b.body → a.ticket ≡ b.ticket → a ≡ b
live_same {g = g} a b body ticket = λ i. record {
  body = body i;
  ticket = ticket i;
  numbered = prop→path_p (λ j. (g.life (body j)).no ≡ no_of (ticket j).deed) (Prim.hlevel props) a.numbered b.numbered i;
  at = prop→path_p (λ j. IsAt (Built (zone_of (ticket j).deed)) (g.life (body j))) (Prim.hlevel props) a.at b.at i;
  of_origin = prop→path_p (λ j. g.origin (body j) ≡ (deed_table (ticket j).deed).origin) (Prim.hlevel props) a.of_origin b.of_origin i;
}
