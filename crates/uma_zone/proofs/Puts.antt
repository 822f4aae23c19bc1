-- What may be put into the lists of a zone's domains.
use Rattle.std.proofs.Common.{◌≡◌, ◌<◌, ℕ, List, [], length, refl, sym, ◌∙◌, subst}
use Rattle.std.proofs.lemmas.List.Elements.{All-head}
use Rattle.smr_clock.specs.declared.clock.Setup.{Setup}
use Rattle.smr_clock.specs.declared.view.View.{View}
use Rattle.smr_clock.specs.Belongs.{TableId}
use Rattle.smr_clock.specs.Notes.{note_clock}
use Rattle.uma_life.specs.declared.states.Ticket.{Ticket}
use Rattle.uma_bucket.specs.declared.bucket.Bucket.{Bucket}
use Rattle.uma_bucket.specs.declared.freed.Loose.{Loose}
use Rattle.uma_bucket.specs.declared.freed.Sealed.{Sealed}
use Rattle.uma_bucket.specs.declared.shelved.Shelved.{Shelved}
use Rattle.uma_bucket.specs.declared.shelved.Shelved.TheVariants.{Plain as Plain', Loose as Loose', Sealed as Sealed'}
use Rattle.uma_bucket.specs.Home.{Home, AreHome}
use Rattle.uma_bucket.specs.Loose.{loose_items, loose_tickets}
use Rattle.uma_bucket.specs.Sealed.{sealed_bucket, sealed_note}
use Rattle.uma_domain.specs.Identity.{Identity}
use Rattle.uma_domain.specs.Listed.{IsPlainOf, IsLooseOf, IsSealedOf}
use Rattle.uma_bucket.specs.Shelved.{count_of, shelved_domain, shelved_tickets, IsShelvedAt, IsShelvedOf}
use Rattle.uma_zone.specs.Flushed.{TriesOnce, CanBePut}

module _ {T H P : Type 0} {g h : _} where
  -- a bucket that isn't loose is as it was
  pub not_loose : (copied : P → P) (v : View P) (shelved : Shelved T H P g h) → ((domain : ℕ) (loose : Loose T g) → shelved ≡ Loose' domain loose → ⊥) → TriesOnce copied v shelved shelved v
  not_loose copied v (Plain' domain bucket) far = (refl, refl)
  not_loose copied v (Loose' domain bucket) far = absurd (far domain bucket refl)
  not_loose copied v (Sealed' domain bucket) far = (refl, refl)

  -- a loose bucket that may be put may be put once it was tried to be sealed
  pub tried_can : (home : Home) (own clock : TableId × Setup) (was is : Shelved T H P g h) (domain : ℕ) (loose : Loose T g) → was ≡ Loose' domain loose → 0 < count_of was → IsShelvedAt home was
      → shelved_domain is ≡ domain → count_of is ≡ length (loose_items loose) → shelved_tickets is ≡ loose_tickets loose → own ≡ clock → IsShelvedOf own is → CanBePut home clock is
  tried_can home own clock was is domain loose same filled here to many tickets same_clock of_clock =
      let at = subst (λ (w : Shelved T H P g h). IsShelvedAt home w) same here in
      let some : 0 < length (loose_items loose) = subst (λ (w : Shelved T H P g h). 0 < count_of w) same filled in
      record {
        filled = subst (λ (n : ℕ). 0 < n) (sym many) some;
        at_home = (subst (λ (n : ℕ). n < home.domains) (sym to) at.0, subst (λ (l : List Ticket). AreHome home l) (sym tickets) at.1);
        of_clock = subst (λ (id : TableId × Setup). IsShelvedOf id is) same_clock of_clock;
      }

  -- ---- a domain may list it

  pub plain_listed : (home own : Home) (clock : TableId × Setup) (shelved : Shelved T H P g h) (domain : ℕ) (bucket : Bucket T g) → shelved ≡ Plain' domain bucket → own ≡ home → CanBePut home clock shelved → IsPlainOf own bucket
  plain_listed home own clock shelved domain bucket is same can =
      let at = subst (λ (s : Shelved T H P g h). CanBePut home clock s) is can in
      subst (λ (x : Home). IsPlainOf x bucket) (sym same) (record { some = at.filled; at_home = at.at_home.1 })

  pub loose_listed : (home own : Home) (clock : TableId × Setup) (shelved : Shelved T H P g h) (domain : ℕ) (bucket : Loose T g) → shelved ≡ Loose' domain bucket → own ≡ home → CanBePut home clock shelved → IsLooseOf own bucket
  loose_listed home own clock shelved domain bucket is same can =
      let at = subst (λ (s : Shelved T H P g h). CanBePut home clock s) is can in
      subst (λ (x : Home). IsLooseOf x bucket) (sym same) (record { some = at.filled; at_home = at.at_home.1 })

  pub sealed_listed : (home : Home) (identity : Identity) (clock : TableId × Setup) (shelved : Shelved T H P g h) (domain : ℕ) (bucket : Sealed T H P g h) → shelved ≡ Sealed' domain bucket → identity.home ≡ home → identity.clock ≡ clock → CanBePut home clock shelved
      → IsSealedOf identity bucket
  sealed_listed home identity clock shelved domain bucket is same same_clock can =
      let at = subst (λ (s : Shelved T H P g h). CanBePut home clock s) is can in
      record {
        bucket = subst (λ (x : Home). IsLooseOf x (sealed_bucket bucket)) (sym same) (record { some = at.filled; at_home = at.at_home.1 });
        clock = All-head (λ (own : TableId × Setup). own ≡ clock) (note_clock (sealed_note bucket)) [] at.of_clock ∙ sym same_clock;
      }
