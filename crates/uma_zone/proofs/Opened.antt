-- Ports that are opened one after another.
use Rattle.std.proofs.Common.{◌≡◌, ◌≤◌, ◌+◌, ℕ, suc, Some, All, List, [], ◌∷◌, ◌++◌, take, sym, ap, ◌∙◌, subst, arith}
use Rattle.std.specs.Prelude.{slice_get}
use Rattle.std.specs.Option.{option_map}
use Rattle.std.proofs.lemmas.List.{map-append, length-map, take_all}
use Rattle.std.proofs.Math.Seq.{take-suc}
use Rattle.std.proofs.lemmas.List.Elements.{All-nil, All-push}
use Rattle.std.proofs.lemmas.Option.{get_or_from_slice_get, slice_get_within, slice_get-map}
use Rattle.inbox.specs.declared.inbox.Port.{Port}
use Rattle.inbox.specs.Inbox.{sent_by}
use Rattle.uma_bucket.specs.declared.shelved.InboxKey.{InboxKey}
use Rattle.uma_bucket.specs.declared.shelved.Shelved.{Shelved}
use Rattle.uma_bucket.specs.Inboxes.{port_origin}
use Rattle.uma_domain.specs.declared.domain.Domain.{Domain}
use Rattle.uma_zone.specs.declared.domains.ZoneDomains.{ZoneDomains}
use Rattle.uma_zone.specs.Domains.{domain_at, domain_count}
use Rattle.uma_zone.specs.OneDomain.{domain_origin}
use Rattle.uma_zone.specs.Ports.{inboxes_of, origins_of, pushed_by}

-- one more of a list's first
take_more : {X : Type 0} (xs : List X) (n : ℕ) (x : X) → slice_get xs n ≡ Some x → take (n + 1) xs ≡ take n xs ++ x ∷ []
take_more xs n x there =
    let next : n + 1 ≡ suc n = omega arith in
    ap (λ (m : ℕ). take m xs) next ∙ take-suc xs n x (slice_get_within xs n x there) ∙ ap (λ (y : _). take n xs ++ y ∷ []) (get_or_from_slice_get xs n x x there)

module _ {T H P : Type 0} {g h : _} where
  pub origins_more : (them : ZoneDomains T H P g h) (ports now : List (Port (Shelved T H P g h) (InboxKey H P))) (n : ℕ) (port : Port (Shelved T H P g h) (InboxKey H P)) (domain : Domain T H P g h) → now ≡ ports ++ port ∷ [] → port_origin port ≡ domain_origin domain
      → domain_at them n ≡ Some domain → origins_of ports ≡ take n (inboxes_of them) → origins_of now ≡ take (n + 1) (inboxes_of them)
  origins_more them ports now n port domain put of there before =
      ap origins_of put ∙ map-append port_origin ports (port ∷ []) ∙ ap (λ (l : List _). l ++ port_origin port ∷ []) before ∙ ap (λ (o : _). take n (inboxes_of them) ++ o ∷ []) of
      ∙ sym (take_more (inboxes_of them) n (domain_origin domain) (slice_get-map domain_origin them.domains.items n ∙ ap (option_map domain_origin) there))

  pub none_more : (ports now : List (Port (Shelved T H P g h) (InboxKey H P))) (port : Port (Shelved T H P g h) (InboxKey H P)) → now ≡ ports ++ port ∷ [] → sent_by port ≡ [] → All (λ (pushed : List (Shelved T H P g h)). pushed ≡ []) (pushed_by ports)
      → All (λ (pushed : List (Shelved T H P g h)). pushed ≡ []) (pushed_by now)
  none_more ports now port put none before =
      subst (λ (l : List (List (Shelved T H P g h))). All (λ (pushed : List (Shelved T H P g h)). pushed ≡ []) l) (sym (ap pushed_by put ∙ map-append sent_by ports (port ∷ []))) (All-push (λ (pushed : List (Shelved T H P g h)). pushed ≡ []) (pushed_by ports) (sent_by port) before none)

  pub origins_all : (them : ZoneDomains T H P g h) (ports : List (Port (Shelved T H P g h) (InboxKey H P))) (n : ℕ) → domain_count them ≤ n → origins_of ports ≡ take n (inboxes_of them) → origins_of ports ≡ inboxes_of them
  origins_all them ports n all before =
      let many = length-map them.domains.items domain_origin in
      before ∙ take_all n (inboxes_of them) (omega (arith, many, all))

  pub none_begun : (ports : List (Port (Shelved T H P g h) (InboxKey H P))) → ports ≡ [] → All (λ (pushed : List (Shelved T H P g h)). pushed ≡ []) (pushed_by ports)
  none_begun ports none = subst (λ (l : List (Port (Shelved T H P g h) (InboxKey H P))). All (λ (pushed : List (Shelved T H P g h)). pushed ≡ []) (pushed_by l)) (sym none) (All-nil (λ (pushed : List (Shelved T H P g h)). pushed ≡ []))
