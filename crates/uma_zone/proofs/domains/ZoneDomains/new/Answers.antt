use Rattle.std.proofs.Common.{rules, ◌≡◌, ℕ, List, [], ◌∷◌, ◌++◌, All, length, sym, ap, ◌∙◌, subst, arith}
use Rattle.std.proofs.lemmas.List.{length-append}
use Rattle.std.proofs.lemmas.List.Elements.{All-nil, All-push}
use Rattle.deed_book.specs.declared.book.Book.{Book}
use Rattle.deed_book.specs.Book.{book_table}
use Rattle.smr_clock.specs.declared.clock.Setup.{Setup}
use Rattle.smr_clock.specs.Belongs.{TableId, clock_id}
use Rattle.uma_bucket.specs.Home.{Home}
use Rattle.uma_domain.specs.declared.domain.Domain.{Domain}
use Rattle.uma_domain.specs.Identity.{home_of}
use Rattle.uma_zone.specs.OneDomain.{IsDomainOf}
use Rattle.uma_zone.proofs.domains.ZoneDomains.new.Goals as goal

pub loop-init : goal.loop-init
loop-init g c =
    let P = λ (d : Domain _ _ _ _ _). IsDomainOf (clock_id c.args.clock.now) (home_of (book_table c.args.book.now) c.args.zone c.args.domains) c.args.smr d in
    record {
      count = ap length c.in_ok-made.ensures.items;
      room = omega (arith, c.in_ok-made.ensures.capacity);
      of_zone = subst (λ (l : List (Domain _ _ _ _ _)). All P l) (sym c.in_ok-made.ensures.items) (All-nil P);
    }

pub push_reserved-requires : goal.push_reserved-requires
push_reserved-requires g c = omega (arith, c.loop.made.ok.0, c.loop.invariant.count, c.loop.invariant.room, c.loop-test.true)

pub loop-preserved : goal.loop-preserved
loop-preserved g c =
    let P = λ (d : Domain _ _ _ _ _). IsDomainOf (clock_id c.args.clock.now) (home_of (book_table c.args.book.now) c.args.zone c.args.domains) c.args.smr d in
    let made = c.in_ok-domain.ensures in
    let put = c.push_reserved.ensures in
    let long : length c.push_reserved.new.self.items ≡ length (c.loop.made.items ++ c.in_ok-domain.domain ∷ []) = ap length put.items in
    record {
      count = omega (arith, long, length-append c.loop.made.items (c.in_ok-domain.domain ∷ []), c.loop.invariant.count);
      room = omega (arith, put.capacity, c.loop.invariant.room);
      of_zone = subst (λ (l : List (Domain _ _ _ _ _)). All P l) (sym put.items)
          (All-push P c.loop.made.items c.in_ok-domain.domain c.loop.invariant.of_zone
          (record { same_clock = made.clock; same_home = made.home ∙ ap (λ (b : Book). home_of (book_table b) c.args.zone c.args.domains) c.of.ensures; same_smr = made.smr }));
    }

pub invariant_of-result : goal.invariant_of-result
invariant_of-result g c =
    let n : c.args.domains ≡ length c.loop.made.items = omega (arith, c.loop.invariant.count, c.loop.auto.counter-end, c.loop-test.false) in
    let home : home_of (book_table c.args.book.now) c.args.zone c.args.domains ≡ home_of (book_table c.of-2.result.value) c.args.zone (length c.loop.made.items) =
    ap (λ (m : ℕ). home_of (book_table c.args.book.now) c.args.zone m) n ∙ ap (λ (b : Book). home_of (book_table b) c.args.zone (length c.loop.made.items)) (sym c.of-2.ensures) in
    let same : clock_id c.args.clock.now ≡ clock_id c.in-Ok.handle = sym c.in-Ok.ensures in
    record {
      some = omega (arith, n, c.requires.low);
      few = omega (arith, n, c.requires.high);
      of_zone = subst (λ (id : TableId × Setup). All (IsDomainOf id (home_of (book_table c.of-2.result.value) c.args.zone (length c.loop.made.items)) c.args.smr) c.loop.made.items) same
          (subst (λ (x : Home). All (IsDomainOf (clock_id c.args.clock.now) x c.args.smr) c.loop.made.items) home c.loop.invariant.of_zone);
    }

pub returns : goal.returns
returns g c =
    let n : length c.loop.made.items ≡ c.args.domains = omega (arith, c.loop.invariant.count, c.loop.auto.counter-end, c.loop-test.false) in
    record {
      home = ap (λ (b : Book). home_of (book_table b) c.args.zone (length c.loop.made.items)) c.of-2.ensures ∙ ap (λ (m : ℕ). home_of (book_table c.args.book.now) c.args.zone m) n;
      clock = search rules;
      smr = search rules;
      count = n;
    }
