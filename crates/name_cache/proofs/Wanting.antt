-- What a call leaves where memory was wanting.
use Rattle.std.proofs.Common.{◌≡◌, ℕ, List, [], ◌∷◌, ◌++◌, Result, Ok, Err, OnErr, refl, sym, ap, ◌∙◌, subst}
use Rattle.smr_clock.specs.declared.view.View.{View}
use Rattle.uma_bucket.specs.declared.shelved.Shelved.{Shelved}
use Rattle.uma_zone.specs.declared.zone.alloc.AllocRefused.{AllocRefused}
use Rattle.uma_zone.specs.declared.zone.alloc.AllocRefused.TheVariants.{Refused as TurnedAway, Memory as NoMemory}
use Rattle.uma_zone.specs.declared.domains.ZoneDomains.{ZoneDomains}
use Rattle.uma_zone.specs.Alloc.{AllocIsRefused, WantsMemory}
use Rattle.uma_zone.specs.OwnDomain.{SentEach, TryEach, IsFlushed}
use Rattle.name_rows.specs.declared.names.Part.{Part}
use Rattle.name_cache.specs.declared.binding.BindRefused.{BindRefused}
use Rattle.name_cache.specs.declared.binding.BindRefused.TheVariants.{Zone, Worn, Unripe, Memory}
use Rattle.name_cache.specs.declared.parts.EntryParts.{EntryParts}
use Rattle.name_cache.specs.declared.binding.Rebound.TheVariants.{Refused}
use Rattle.name_cache.specs.Bind.{as_bind}
use Rattle.name_cache.specs.Rebound.{HasRebound}
use Rattle.name_cache.specs.Room.{entry_ask}
use Rattle.name_cache.specs.Types.{ZoneOfEntries, EntrySeat}

-- the same Err of another value's type
pub same_err : {A B E : Type 0} (result : Result A E) (e why m : E) → result ≡ Err e → e ≡ why → Path (Result A E) result (Err m) → Path (Result B E) (Err why) (Err m)
same_err result e why m is from same =
    let both : Path (Result _ _) (Err e) (Err m) = sym is ∙ same in
    let one : e ≡ m = cc in
    ap Err (sym from ∙ one)

pub not_err : {A E : Type 0} (a : A) (m : E) → Path (Result A E) (Ok a) (Err m) → ⊥
not_err a m same = absurd (cc)

-- what holds anyhow holds at an Err
pub at_err : {A E F : Type 0} (result : Result A E) → F → OnErr result F
at_err (Ok a) x = tt
at_err (Err e) x = x

only_memory : (why : AllocRefused) → as_bind why ≡ Memory → why ≡ NoMemory
only_memory (TurnedAway refusal) same = absurd (cc)
only_memory NoMemory same = refl

-- a bind wants memory where the zone did
pub memory_of : {A : Type 0} (result : Result A BindRefused) (e : BindRefused) (why : AllocRefused) → result ≡ Err e → e ≡ as_bind why → Path (Result A BindRefused) result (Err Memory) → why ≡ NoMemory
memory_of result e why is from same =
    let both : Path (Result _ _) (Err e) (Err Memory) = sym is ∙ same in
    let one : e ≡ Memory = cc in
    only_memory why (sym from ∙ one)

-- a row doesn't refuse for want of memory
never_memory : (refused : BindRefused) (zone : ZoneOfEntries) (rows key value : ℕ) (v v' : View Part) (old new : EntrySeat) (entry : EntryParts) → HasRebound zone rows key value v old (Refused entry refused) v' new → refused ≡ Memory → ⊥
never_memory (Zone refusal) zone rows key value v v' old new entry h same = absurd (cc)
never_memory (Worn row version) zone rows key value v v' old new entry h same = absurd (cc)
never_memory (Unripe read stamp) zone rows key value v v' old new entry h same = absurd (cc)
never_memory Memory zone rows key value v v' old new entry h same = absurd h.ends.why

pub row_not_memory : {A : Type 0} (refused : BindRefused) (zone : ZoneOfEntries) (rows key value : ℕ) (v v' : View Part) (old new : EntrySeat) (entry : EntryParts) → HasRebound zone rows key value v old (Refused entry refused) v' new → Path (Result A BindRefused) (Err refused) (Err Memory) → ⊥
row_not_memory refused zone rows key value v v' old new entry h same = let one : refused ≡ Memory = cc in never_memory refused zone rows key value v v' old new entry h one

-- the first of two lists is empty, where both together are
none_before : {X : Type 0} (xs ys : List X) → xs ++ ys ≡ [] → xs ≡ []
none_before [] ys none = refl
none_before (x ∷ xs) ys none = absurd (cc)

module _ {T H P : Type 0} {g h : _} where
  -- a flush of an empty shelf sends nothing
  pub nothing_sent : (them : ZoneDomains T H P g h) (own : ℕ) (copied : P → P) (was is : List (Shelved T H P g h)) (sent sent' : List (List (Shelved T H P g h))) (v : View P) → was ≡ [] → IsFlushed them own copied was is sent sent' v → sent' ≡ sent
  nothing_sent them own copied was is sent sent' v none flushed =
      let flushes = flushed.flushes in
      let tries : TryEach copied v [] flushes.tried flushes.mid = subst (λ (l : List (Shelved T H P g h)). TryEach copied v l flushes.tried flushes.mid) none flushes.tries in
      let put : flushes.puts.put ≡ [] = none_before flushes.puts.put is (sym flushes.puts.split ∙ tries.0) in
      let each : SentEach them sent [] sent' = subst (λ (l : List (Shelved T H P g h)). SentEach them sent l sent') put flushes.puts.each in
      each

-- no item was usable where the zone wanted memory
pub none_usable : (zone : ZoneOfEntries) (old new : EntrySeat) (why : AllocRefused) → why ≡ NoMemory → AllocIsRefused zone entry_ask old new why → WantsMemory old new
none_usable zone old new why same refuses = subst (λ (w : AllocRefused). AllocIsRefused zone entry_ask old new w) same refuses
