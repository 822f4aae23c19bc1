-- Own: a law of a domain's working set, which is the greatest less the least count of items that it listed since its last trim.
use Rattle.std.specs.Prelude.{◌≡◌, ◌≤◌, ◌+◌, ◌-◌, ℕ, List, [], ◌∷◌, fold}
use Rattle.std.specs.List.{All, Contains}
use Rattle.smr_clock.specs.declared.host.Host.{Ghosts as HostGhosts}
use Rattle.uma_life.specs.declared.hooks.Body.{Ghosts}
use Rattle.uma_bucket.specs.declared.bucket.Bucket.{Bucket}
use Rattle.uma_bucket.specs.declared.freed.Loose.{Loose}
use Rattle.uma_bucket.specs.declared.freed.Ripe.{Ripe}
use Rattle.uma_bucket.specs.declared.freed.Sealed.{Sealed}
use Rattle.uma_domain.specs.declared.domain.Domain.{Domain}
use Rattle.uma_domain.specs.declared.lists.Working.{Working}
use Rattle.uma_domain.specs.Listed.{plain_len, loose_len, sealed_len, ripe_len}
use Rattle.uma_domain.specs.Lists.{working_in}
use Rattle.uma_domain.specs.UnderLock.{PutsPlain, PutsLoose, PutsSealed, TakesPlain, TakesOldestRipe}
use Rattle.uma_domain.specs.Working.{after, begun, working_set}

-- a put of so many items, or a take of so many, at most all that are listed
pub data Move : Type 0 where
  Put : ℕ → Move
  Take : ℕ → Move

-- how many are listed after it
abbrev pub moved : ℕ → Move → ℕ
moved count (Put items) = count + items
moved count (Take items) = count - items

-- how many are listed after each move of a run
abbrev pub counts_after : ℕ → List Move → List ℕ
counts_after count [] = []
counts_after count (move ∷ moves) = moved count move ∷ counts_after (moved count move) moves

-- how a domain counts a move, and a run of them since a trim
abbrev pub counted : Working → Move → Working
counted working move = after working (moved working.count move)

abbrev pub since_trim : ℕ → List Move → Working
since_trim start moves = fold counted (begun start) moves

-- the least of these numbers
pub record IsLeast (n : ℕ) (ns : List ℕ) : Type 0 where
  pub one : Contains ns n
  pub below : All (λ m. n ≤ m) ns

-- the greatest of these numbers
pub record IsGreatest (n : ℕ) (ns : List ℕ) : Type 0 where
  pub one : Contains ns n
  pub above : All (λ m. m ≤ n) ns

-- The least and the greatest count are the extremes of all that stood since the trim, that of the trim too.
abbrev pub TellsExtremes : Type 0
TellsExtremes = (start : ℕ) (moves : List Move) → IsLeast (since_trim start moves).least (start ∷ counts_after start moves) × IsGreatest (since_trim start moves).greatest (start ∷ counts_after start moves)

-- So no two of them were further apart than the working set.
abbrev pub IsFarthest : Type 0
IsFarthest = (start : ℕ) (moves : List Move) (one other : ℕ) → Contains (start ∷ counts_after start moves) one → Contains (start ∷ counts_after start moves) other → one - other ≤ working_set (since_trim start moves)

-- A domain counts so: each put of a bucket, and each take by a look, is the move of the bucket's items.
pub record CountsMoves (T H P : Type 0) (g : Ghosts T) (h : HostGhosts H P) : Type 0 where
  pub puts_plain : (domain : Domain T H P g h) (bucket : Bucket T g) (put : PutsPlain domain bucket) → working_in put.is ≡ counted (working_in put.was) (Put (plain_len bucket))
  pub puts_loose : (domain : Domain T H P g h) (bucket : Loose T g) (put : PutsLoose domain bucket) → working_in put.is ≡ counted (working_in put.was) (Put (loose_len bucket))
  pub puts_sealed : (domain : Domain T H P g h) (bucket : Sealed T H P g h) (put : PutsSealed domain bucket) → working_in put.is ≡ counted (working_in put.was) (Put (sealed_len bucket))
  pub takes_plain : (domain : Domain T H P g h) (bucket : Bucket T g) (take : TakesPlain domain bucket) → working_in take.is ≡ counted (working_in take.was) (Take (plain_len bucket))
  pub takes_ripe : (domain : Domain T H P g h) (ripe : Ripe T H P g h) (take : TakesOldestRipe domain ripe) → working_in take.is ≡ counted (working_in take.was) (Take (ripe_len ripe))
