-- Own: what a call did to the lists of one of a zone's domains. The domain is named by its number, and its lists stood under its lock.
use Rattle.std.specs.Prelude.{◌≡◌, ℕ, zero, suc, true, false, Some, List, [], ◌∷◌, ◌++◌, slice_set}
use Rattle.std.specs.List.{slice_get}
use Rattle.smr_clock.specs.declared.view.View.{View}
use Rattle.inbox.specs.declared.inbox.Port.{Port}
use Rattle.inbox.specs.Inbox.{sent_by}
use Rattle.uma_life.specs.declared.states.Cached.{Cached}
use Rattle.uma_bucket.specs.declared.bucket.Bucket.{Bucket}
use Rattle.uma_bucket.specs.declared.shelved.InboxKey.{InboxKey}
use Rattle.uma_bucket.specs.declared.freed.Ripe.{Ripe}
use Rattle.uma_bucket.specs.declared.shelved.Shelved.{Shelved}
use Rattle.uma_bucket.specs.Bucket.{items_of}
use Rattle.uma_bucket.specs.Finished.{AreFinished}
use Rattle.uma_bucket.specs.Loose.{loose_items}
use Rattle.uma_bucket.specs.Ripe.{ripe_bucket}
use Rattle.uma_domain.specs.declared.domain.Domain.{Domain}
use Rattle.uma_domain.specs.UnderLock.{HandsOver, SettlesInbox, TakesPlain, FindsNoPlain, TakesOldestRipe, FindsNoneRipe, SealsLoose}
use Rattle.uma_bucket.specs.Shelved.{shelved_domain}
use Rattle.uma_zone.specs.declared.domains.ZoneDomains.{ZoneDomains}
use Rattle.uma_zone.specs.Domains.{domain_at, domains_smr}
use Rattle.uma_zone.specs.Flushed.{TriesOnce}

module _ {T H P : Type 0} {g h : _} where
  -- ---- a flush

  -- The bucket went to the domain that it names, by the port for that domain: into its inbox, or to its list where the inbox handed it back. Each other port pushed nothing. `was` and `is` are what each port pushed.
  pub record IsSent (them : ZoneDomains T H P g h) (was : List (List (Shelved T H P g h))) (shelved : Shelved T H P g h) (is : List (List (Shelved T H P g h))) : Type 0 where
    pub domain : Domain T H P g h
    pub named : domain_at them (shelved_domain shelved) ≡ Some domain
    pub before : Port (Shelved T H P g h) (InboxKey H P)
    pub after : Port (Shelved T H P g h) (InboxKey H P)
    pub there : slice_get was (shelved_domain shelved) ≡ Some (sent_by before)
    pub others : is ≡ slice_set was (shelved_domain shelved) (sent_by after)
    pub over : HandsOver domain before shelved after

  -- each of these buckets went so, in order
  abbrev pub SentEach : ZoneDomains T H P g h → List (List (Shelved T H P g h)) → List (Shelved T H P g h) → List (List (Shelved T H P g h)) → Type 0
  SentEach them was [] is = is ≡ was
  SentEach them was (s ∷ ss) is = (next : List (List (Shelved T H P g h))) × IsSent them was s next × SentEach them next ss is

  -- Each bucket was tried once to be sealed where it is loose, in order, by a pass whose view was v before and v' after.
  abbrev pub TryEach : (P → P) → View P → List (Shelved T H P g h) → List (Shelved T H P g h) → View P → Type 0
  TryEach copied v [] tried v' = (tried ≡ []) × (v' ≡ v)
  TryEach copied v (s ∷ ss) tried v' =
      (t : Shelved T H P g h) × (rest : List (Shelved T H P g h)) × (next : View P) × (tried ≡ t ∷ rest) × TriesOnce copied v s t next × TryEach copied next ss rest v'

  -- the oldest of these buckets went to their domains, and the others stay, in their order
  pub record PutsFirst (them : ZoneDomains T H P g h) (was is : List (Shelved T H P g h)) (sent sent' : List (List (Shelved T H P g h))) : Type 0 where
    pub put : List (Shelved T H P g h)
    pub split : was ≡ put ++ is
    pub each : SentEach them sent put sent'

  -- each loose bucket that the domain of this number lists was tried once to be sealed
  pub record TriesListed (them : ZoneDomains T H P g h) (number : ℕ) (copied : P → P) (v v' : View P) : Type 0 where
    pub domain : Domain T H P g h
    pub named : domain_at them number ≡ Some domain
    pub count : ℕ
    pub seals : SealsLoose domain copied v count v'

  -- In an SMR zone each loose bucket that the domain of this number lists was tried once to be sealed, by a pass whose view was v before and v' after. In any other zone the pass did nothing.
  pub record TriesLoose (them : ZoneDomains T H P g h) (number : ℕ) (copied : P → P) (v v' : View P) : Type 0 where
    pub listed : domains_smr them ≡ true → TriesListed them number copied v v'
    pub none_listed : domains_smr them ≡ false → v' ≡ v

  -- A flush of a seat, whose shelf had these buckets and has those, whose ports pushed this before and that after, and whose own domain has this number, in three steps. First each loose bucket of the shelf tried once to be sealed. Then each loose one that its own domain lists did. Then the oldest buckets of the shelf, as the first step left them, went to their domains; the others stay.
  pub record Flushes (them : ZoneDomains T H P g h) (own : ℕ) (copied : P → P) (was is : List (Shelved T H P g h)) (sent sent' : List (List (Shelved T H P g h))) (v v' : View P) : Type 0 where
    pub tried : List (Shelved T H P g h)
    pub mid : View P
    pub tries : TryEach copied v was tried mid
    pub loose : TriesLoose them own copied mid v'
    pub puts : PutsFirst them tried is sent sent'

  -- the seat, whose own domain has this number, was flushed so, by a pass whose view was v before
  pub record IsFlushed (them : ZoneDomains T H P g h) (own : ℕ) (copied : P → P) (was is : List (Shelved T H P g h)) (sent sent' : List (List (Shelved T H P g h))) (v : View P) : Type 0 where
    pub left : View P
    pub flushes : Flushes them own copied was is sent sent' v left

  -- ---- a settle

  -- The inbox of the domain of this number was settled into its lists, and in an SMR zone each loose bucket that they had then was tried once to be sealed, by a pass whose view was v before and v' after.
  pub record Settles (them : ZoneDomains T H P g h) (number : ℕ) (copied : P → P) (v v' : View P) : Type 0 where
    pub domain : Domain T H P g h
    pub named : domain_at them number ≡ Some domain
    pub count : ℕ
    pub settled : SettlesInbox domain count
    pub loose : domains_smr them ≡ true → TriesListed them number copied v v'
    pub no_loose : domains_smr them ≡ false → v' ≡ v

  -- it was settled so, by a pass whose views aren't told
  pub record IsSettled (them : ZoneDomains T H P g h) (number : ℕ) (copied : P → P) : Type 0 where
    pub before : View P
    pub after : View P
    pub settles : Settles them number copied before after

  -- so many domains were settled so, one after another: that of number 0, and each further one up to this count
  unfoldable pub SettlesFirst : ZoneDomains T H P g h → (P → P) → View P → ℕ → View P → Type 0
  SettlesFirst them copied v zero v' = v' ≡ v
  SettlesFirst them copied v (suc number) v' = (mid : View P) × SettlesFirst them copied v number mid × Settles them number copied mid v'

  -- ---- a look

  -- this bucket was the newest plain one of the domain of this number, and is taken
  pub record TakesPlainAt (them : ZoneDomains T H P g h) (number : ℕ) (bucket : Bucket T g) : Type 0 where
    pub domain : Domain T H P g h
    pub named : domain_at them number ≡ Some domain
    pub taken : TakesPlain domain bucket

  -- this bucket was the oldest sealed one of the domain of this number whose poll said yes, and is taken
  pub record TakesRipeAt (them : ZoneDomains T H P g h) (number : ℕ) (ripe : Ripe T H P g h) : Type 0 where
    pub domain : Domain T H P g h
    pub named : domain_at them number ≡ Some domain
    pub taken : TakesOldestRipe domain ripe

  -- these are the items of the newest plain bucket of the domain of this number, which is taken
  pub record ArePlainOf (them : ZoneDomains T H P g h) (number : ℕ) (items : List (Cached T g)) : Type 0 where
    pub bucket : Bucket T g
    pub taken : TakesPlainAt them number bucket
    pub all : items ≡ items_of bucket

  -- These are the items of the oldest sealed bucket of the domain of this number whose poll said yes, which is taken. Each passed `dtor` after that.
  pub record AreRipeOf (them : ZoneDomains T H P g h) (number : ℕ) (leaves : T → ℕ → T → Type 0) (items : List (Cached T g)) : Type 0 where
    pub ripe : Ripe T H P g h
    pub taken : TakesRipeAt them number ripe
    pub finished : AreFinished leaves (loose_items (ripe_bucket ripe)) items

  -- a look at the lists of the domain of this number found these items
  pub record AreFoundIn (them : ZoneDomains T H P g h) (number : ℕ) (leaves : T → ℕ → T → Type 0) (items : List (Cached T g)) : Type 0 where
    pub plain : domains_smr them ≡ false → ArePlainOf them number items
    pub ripe : domains_smr them ≡ true → AreRipeOf them number leaves items

  -- A look at the lists of the domain of this number found nothing: no plain bucket was listed, or in an SMR zone the poll of each sealed one said no. One more miss is counted there.
  pub record FindsNothing (them : ZoneDomains T H P g h) (number : ℕ) : Type 0 where
    pub domain : Domain T H P g h
    pub named : domain_at them number ≡ Some domain
    pub plain : domains_smr them ≡ false → FindsNoPlain domain
    pub ripe : domains_smr them ≡ true → FindsNoneRipe domain
