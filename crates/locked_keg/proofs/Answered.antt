-- What the answer of a fetch tells, whatever it is.
use Rattle.std.proofs.Common.{◌≡◌, ◌<◌, ℕ, List, [], map, sym, ◌∙◌, subst}
use Rattle.std.specs.Prelude.{Result, Ok, Err, IfOk, IfErr, OnErr}
use Rattle.std.proofs.lemmas.List.Elements.{All-nil}
use Rattle.uma_life.specs.declared.states.Cached.{Cached}
use Rattle.uma_life.specs.Cached.{cached_ticket}
use Rattle.uma_bucket.specs.Home.{Home, IsHome, AreHome}
use Rattle.uma_keg.specs.declared.fetch.FetchAsk.{FetchAsk}
use Rattle.uma_keg.specs.declared.fetch.FetchRefused.{FetchRefused}
use Rattle.uma_keg.specs.declared.keg.Keg.{Keg}
use Rattle.uma_keg.specs.Fetched.{FetchesInto, RefusesFetch}
use Rattle.uma_keg.specs.Keg.{places_in}
use Rattle.locked_keg.specs.Rule.{HasDomainsBelow}
use Rattle.locked_keg.specs.Seating.{FetchesHome}
use Rattle.locked_keg.proofs.Domains.{fetched_domains, refused_domains, fetched_home}

module _ {T K : Type 0} {g : _} {h : _} where
  pub answered_domains : (old new : Keg T K g h) (hooks : K) (ask : FetchAsk) (answer : Result ℕ FetchRefused) (before after : List (Cached T g)) (domains : ℕ) → IfOk answer (λ count. FetchesInto old hooks ask count before after new) → IfErr answer (RefusesFetch old hooks ask new) → ask.domain < domains → HasDomainsBelow domains (places_in old) → HasDomainsBelow domains (places_in new)
  answered_domains old new hooks ask (Ok count) before after domains fetched refused own below = fetched_domains old new hooks ask count before after domains fetched own below
  answered_domains old new hooks ask (Err why) before after domains fetched refused own below = refused_domains old new hooks ask domains why refused own below

  pub answered_home : (old new : Keg T K g h) (hooks : K) (ask : FetchAsk) (answer : Result ℕ FetchRefused) (before after : List (Cached T g)) (home : Home) → before ≡ [] → IfOk answer (λ count. FetchesInto old hooks ask count before after new) → OnErr answer (after ≡ before) → FetchesHome old ask home → AreHome home (map cached_ticket after)
  answered_home old new hooks ask (Ok count) before after home empty fetched none to = fetched_home old new hooks ask count after home to (subst (λ (l : List (Cached T g)). FetchesInto old hooks ask count l after new) empty fetched)
  answered_home old new hooks ask (Err why) before after home empty fetched none to = subst (λ (l : List (Cached T g)). AreHome home (map cached_ticket l)) (sym (none ∙ empty)) (All-nil (IsHome home))
