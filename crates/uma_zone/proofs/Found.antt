-- What a look at the lists of a seat's own domain found there.
use Rattle.std.proofs.Common.{◌≡◌, ℕ, Bool, true, false, Option, Some, None, IfSome, IfNone, subst}
use Rattle.uma_bucket.specs.declared.bucket.Bucket.{Bucket}
use Rattle.uma_bucket.specs.declared.freed.Ripe.{Ripe}
use Rattle.uma_domain.specs.declared.domain.Domain.{Domain}
use Rattle.uma_domain.specs.UnderLock.{TakesPlain, FindsNoPlain, TakesOldestRipe, FindsNoneRipe}
use Rattle.uma_zone.specs.declared.domains.ZoneDomains.{ZoneDomains}
use Rattle.uma_zone.specs.Domains.{domain_at, domains_smr}
use Rattle.uma_zone.specs.OwnDomain.{TakesPlainAt, TakesRipeAt, FindsNothing}

-- what is true isn't false
pub not_both : (b : Bool) → b ≡ false → b ≡ true → ⊥
not_both true is_false is_true = absurd (cc)
not_both false is_false is_true = absurd (cc)

module _ {T H P : Type 0} {g h : _} (them : ZoneDomains T H P g h) (own number : ℕ) (domain : Domain T H P g h) where
  pub taken_plain : (result : Option (Bucket T g)) → own ≡ number → domain_at them own ≡ Some domain → IfSome result (TakesPlain domain) → IfSome result (TakesPlainAt them number)
  taken_plain None same named taken = tt
  taken_plain (Some bucket) same named taken = record { domain = domain; named = subst (λ (n : ℕ). domain_at them n ≡ Some domain) same named; taken = taken }

  pub no_plain : (result : Option (Bucket T g)) → own ≡ number → domains_smr them ≡ false → domain_at them own ≡ Some domain → IfNone result (FindsNoPlain domain) → IfNone result (FindsNothing them number)
  no_plain None same kind named none = record { domain = domain; named = subst (λ (n : ℕ). domain_at them n ≡ Some domain) same named; plain = λ _. none; ripe = λ smr. absurd (not_both (domains_smr them) kind smr) }
  no_plain (Some bucket) same kind named none = tt

  pub taken_ripe : (result : Option (Ripe T H P g h)) → own ≡ number → domain_at them own ≡ Some domain → IfSome result (TakesOldestRipe domain) → IfSome result (TakesRipeAt them number)
  taken_ripe None same named taken = tt
  taken_ripe (Some ripe) same named taken = record { domain = domain; named = subst (λ (n : ℕ). domain_at them n ≡ Some domain) same named; taken = taken }

  pub no_ripe : (result : Option (Ripe T H P g h)) → own ≡ number → domains_smr them ≡ true → domain_at them own ≡ Some domain → IfNone result (FindsNoneRipe domain) → IfNone result (FindsNothing them number)
  no_ripe None same kind named none = record { domain = domain; named = subst (λ (n : ℕ). domain_at them n ≡ Some domain) same named; plain = λ plain. absurd (not_both (domains_smr them) plain kind); ripe = λ _. none }
  no_ripe (Some ripe) same kind named none = tt
