-- How a fetch ends, from its steps.
use Rattle.std.proofs.Common.{◌≡◌, ◌≢◌, ◌≤◌, ◌<◌, ◌+◌, ◌-◌, ◌*◌, [], ◌∷◌, ◌++◌, ℕ, Bool, true, false, not, ◌&&◌, ◌==◌, nat_le, cond, min, List, length, refl, inl, inr, arith, sym, ap, subst, ◌∙◌}
use Rattle.std.proofs.lemmas.Bool.Decides.{nat_tests}
use Rattle.std.proofs.lemmas.List.{append-nil}
use Rattle.uma_life.specs.declared.states.Cached.{Cached}
use Rattle.uma_life.specs.declared.tally.TallySum.{TallySum}
use Rattle.zone_stats.specs.declared.refusal.Refusal.{Refusal}
use Rattle.zone_stats.specs.declared.refusal.Refusal.TheVariants.{AtLimit, Reserved, Full, Init, Ctor}
use Rattle.uma_keg.specs.declared.fetch.FetchAsk.{FetchAsk}
use Rattle.uma_keg.specs.declared.fetch.FetchRefused.{FetchRefused}
use Rattle.uma_keg.specs.declared.fetch.FetchRefused.TheVariants.{Refused, Memory}
use Rattle.uma_keg.specs.declared.keg.Keg.{Keg}
use Rattle.uma_slabs.specs.Places.{KegPlaces, slab_count, free_count}
use Rattle.uma_keg.specs.Outs.{out_of}
use Rattle.uma_keg.specs.Fetch.{Wish, is_at_limit, IsNewSlabs, outcome_with, Outcome, Refuses, Gives}
use Rattle.uma_keg.specs.BringSlab.{RefusesSlab}
use Rattle.uma_keg.specs.BringSlabs.{found_in, BringsSlabs, StopsAtSlab}
use Rattle.uma_keg.specs.Keg.{places_in, zones_in, stored_in, buried_in, out_in, limit_in, reserve_in, IsSameKeg, IsWithinLimit}
use Rattle.uma_keg.specs.TakeItem.{MayTake, SamePlaces, KeepsItems}
use Rattle.uma_keg.specs.TakeItems.{TakesItems, TakesInto, StopsAtItem}
use Rattle.uma_keg.specs.Frames.{IsUnmoved}
use Rattle.uma_keg.specs.Fetched.{wish_of, Proceeds, FetchesInto, RefusesFirst, RefusesFetch, IsOfKeg}
use Rattle.uma_keg.proofs.TakenItems.{keeps_same}

-- how a fetch ends by each of its numbers: the reserve, the items outside and the limit, the free items, the slabs and those ever made
abbrev pub ends_by : ℕ → ℕ → ℕ → ℕ → ℕ → ℕ → ℕ → Bool → Outcome
ends_by reserve out limit free slabs made most right =
    cond (free == 0) (Refuses (Full slabs made))
    (cond (nat_le free reserve && not right) (Refuses (Reserved free reserve)) (Gives (cond (nat_le free reserve) 1 (min most (min (free - reserve) (cond (limit == 0) most (limit - out)))))))

same_end : (r r' o o' l l' f f' s s' m m' most : ℕ) (right : Bool) → r ≡ r' → o ≡ o' → l ≡ l' → f ≡ f' → s ≡ s' → m ≡ m' → ends_by r o l f s m most right ≡ ends_by r' o' l' f' s' m' most right
same_end r r' o o' l l' f f' s s' m m' most right er eo el ef es em =
    ap (λ (x : ℕ). ends_by x o l f s m most right) er
    ∙ ap (λ (x : ℕ). ends_by r' x l f s m most right) eo
    ∙ ap (λ (x : ℕ). ends_by r' o' x f s m most right) el
    ∙ ap (λ (x : ℕ). ends_by r' o' l' x s m most right) ef
    ∙ ap (λ (x : ℕ). ends_by r' o' l' f' x m most right) es
    ∙ ap (λ (x : ℕ). ends_by r' o' l' f' s' x most right) em

-- the numbers of a keg itself, where no slab more is brought in
own_end : {T K : Type 0} {g : _} {h : _} (keg : Keg T K g h) (zone : ℕ) (wish : Wish) → outcome_with (found_in keg zone) wish 0 ≡ ends_by (reserve_in keg) (out_in keg zone) (limit_in keg zone) (free_count (places_in keg)) (slab_count (places_in keg)) (places_in keg).made wish.most wish.reserve
own_end keg zone wish = same_end (reserve_in keg) (reserve_in keg) (out_in keg zone) (out_in keg zone) (limit_in keg zone) (limit_in keg zone) (free_count (places_in keg) + 0 * (places_in keg).per_slab) (free_count (places_in keg)) (slab_count (places_in keg) + 0) (slab_count (places_in keg)) ((places_in keg).made + 0) (places_in keg).made wish.most wish.reserve refl refl refl (omega arith) (omega arith) (omega arith)

-- once the new slabs are in, the keg's own numbers tell how the fetch ends
pub same_outcome : {T K : Type 0} {g : _} {h : _} (old mid : Keg T K g h) (zone domain slabs : ℕ) (wish : Wish) → BringsSlabs old domain slabs mid → IsSameKeg old mid → out_in mid zone ≡ out_in old zone → limit_in mid zone ≡ limit_in old zone → outcome_with (found_in old zone) wish slabs ≡ outcome_with (found_in mid zone) wish 0
same_outcome old mid zone domain slabs wish brings same out limit = same_end (reserve_in old) (reserve_in mid) (out_in old zone) (out_in mid zone) (limit_in old zone) (limit_in mid zone) (free_count (places_in old) + slabs * (places_in old).per_slab) (free_count (places_in mid) + 0 * (places_in mid).per_slab) (slab_count (places_in old) + slabs) (slab_count (places_in mid) + 0) ((places_in old).made + slabs) ((places_in mid).made + 0) wish.most wish.reserve (sym same.reserve) (sym out) (sym limit) (omega (arith, brings.counts.free)) (omega (arith, brings.counts.slabs)) (omega (arith, brings.counts.made))

gives_same : (m n : ℕ) → Gives m ≡ Gives n → m ≡ n
gives_same m n e = cc

-- what follows for the count of items that are given
pub record IsGiven (most free out limit n : ℕ) : Type 0 where
  pub some : 1 ≤ n
  pub few : n ≤ most
  pub there : n ≤ free
  pub allowed : 0 < limit → out + n ≤ limit

picked : (none kept : Bool) (full reserved : Refusal) (k n : ℕ) → cond none (Refuses full) (cond kept (Refuses reserved) (Gives k)) ≡ Gives n → (none ≡ false) × (k ≡ n)
picked true kept full reserved k n e = absurd cc
picked false true full reserved k n e = absurd cc
picked false false full reserved k n e = (refl, gives_same k n e)

count_some : (r o l f most : ℕ) → 1 ≤ most → (0 < l → o < l) → 1 ≤ cond (nat_le f r) 1 (min most (min (f - r) (cond (l == 0) most (l - o))))
count_some r o l f most some below = grind (arith, nat_tests)

count_few : (r o l f most : ℕ) → 1 ≤ most → cond (nat_le f r) 1 (min most (min (f - r) (cond (l == 0) most (l - o)))) ≤ most
count_few r o l f most some = grind (arith, nat_tests)

count_there : (r o l f most : ℕ) → (f == 0) ≡ false → cond (nat_le f r) 1 (min most (min (f - r) (cond (l == 0) most (l - o)))) ≤ f
count_there r o l f most some = grind (arith, nat_tests)

count_allowed : (r o l f most : ℕ) → 0 < l → o < l → o + cond (nat_le f r) 1 (min most (min (f - r) (cond (l == 0) most (l - o)))) ≤ l
count_allowed r o l f most limited below = grind (arith, nat_tests)

given_by : (r o l f s m most : ℕ) (right : Bool) (n : ℕ) → ends_by r o l f s m most right ≡ Gives n → 1 ≤ most → (0 < l → o < l) → IsGiven most f o l n
given_by r o l f s m most right n is some below =
    let p = picked (f == 0) (nat_le f r && not right) (Full s m) (Reserved f r) (cond (nat_le f r) 1 (min most (min (f - r) (cond (l == 0) most (l - o))))) n is in
    record {
      some = omega (arith, p.1, count_some r o l f most some below);
      few = omega (arith, p.1, count_few r o l f most some);
      there = omega (arith, p.1, count_there r o l f most p.0);
      allowed = λ limited. omega (arith, p.1, count_allowed r o l f most limited (below limited));
    }

pub is_given : {T K : Type 0} {g : _} {h : _} (keg : Keg T K g h) (zone : ℕ) (wish : Wish) (n : ℕ) → outcome_with (found_in keg zone) wish 0 ≡ Gives n → 1 ≤ wish.most → (0 < limit_in keg zone → out_in keg zone < limit_in keg zone) → IsGiven wish.most (free_count (places_in keg)) (out_in keg zone) (limit_in keg zone) n
is_given keg zone wish n is some below = given_by (reserve_in keg) (out_in keg zone) (limit_in keg zone) (free_count (places_in keg)) (slab_count (places_in keg)) (places_in keg).made wish.most wish.reserve n (sym (own_end keg zone wish) ∙ is) some below

-- a fetch that isn't at the limit, once its slabs are in
pub proceeds : {T K : Type 0} {g : _} {h : _} (old mid : Keg T K g h) (ask : FetchAsk) (slabs : ℕ) (outcome : Outcome) → is_at_limit (found_in old ask.zone) ≡ false → BringsSlabs old ask.domain slabs mid → IsNewSlabs (found_in old ask.zone) slabs → IsSameKeg old mid → zones_in mid ≡ zones_in old → limit_in mid ask.zone ≡ limit_in old ask.zone → outcome_with (found_in mid ask.zone) (wish_of ask) 0 ≡ outcome → Proceeds old ask outcome mid
proceeds old mid ask slabs outcome clear brings enough same zones limit ends = record {
  below_limit = clear;
  slabs = slabs;
  enough = enough;
  brings = brings;
  ends = same_outcome old mid ask.zone ask.domain slabs (wish_of ask) brings same (ap (λ zs. out_of zs ask.zone) zones) limit ∙ ends;
  zones = zones;
  same = same;
}

unmoved : {T K : Type 0} {g : _} {h : _} (keg : Keg T K g h) → IsUnmoved keg keg
unmoved keg = record { places = refl; zones = refl; stored = λ n. refl; buried = refl }

-- it is refused by its numbers
pub refused_by_keg : {T K : Type 0} {g : _} {h : _} (old mid : Keg T K g h) (hooks : K) (ask : FetchAsk) (refusal : Refusal) → IsOfKeg refusal → Proceeds old ask (Refuses refusal) mid → RefusesFetch old hooks ask mid (Refused refusal)
refused_by_keg old mid hooks ask (Full slabs made) is on = record { left = mid; proceeds = on; unmoved = unmoved mid }
refused_by_keg old mid hooks ask (Reserved free reserve) is on = record { left = mid; proceeds = on; unmoved = unmoved mid }
refused_by_keg old mid hooks ask (AtLimit out limit) is on = absurd is
refused_by_keg old mid hooks ask (Init code) is on = absurd is
refused_by_keg old mid hooks ask (Ctor code) is on = absurd is

-- a slab that it wants was refused
pub refused_at_slab : {T K : Type 0} {g : _} {h : _} (old new : Keg T K g h) (hooks : K) (ask : FetchAsk) (why : FetchRefused) → is_at_limit (found_in old ask.zone) ≡ false → StopsAtSlab old ask.domain why new → RefusesFetch old hooks ask new why
refused_at_slab old new hooks ask Memory clear stops = inr (clear, stops)
refused_at_slab old new hooks ask (Refused (Init code)) clear stops = inl (clear, stops)
refused_at_slab old new hooks ask (Refused (Full slabs made)) clear stops = absurd (stops.fewer ask.zone stops.slabs (omega arith) (inr (omega (arith, stops.refused.2, stops.brings.counts.slabs, stops.brings.counts.cap))))
refused_at_slab old new hooks ask (Refused (AtLimit out limit)) clear stops = absurd stops.refused
refused_at_slab old new hooks ask (Refused (Reserved free reserve)) clear stops = absurd stops.refused
refused_at_slab old new hooks ask (Refused (Ctor code)) clear stops = absurd stops.refused

-- all of the count is given
pub fetches_all : {T K : Type 0} {g : _} {h : _} (old mid new : Keg T K g h) (hooks : K) (ask : FetchAsk) (count : ℕ) (before after : List (Cached T g)) → Proceeds old ask (Gives count) mid → 1 ≤ count → TakesInto mid hooks ask.zone count before after new → FetchesInto old hooks ask count before after new
fetches_all old mid new hooks ask count before after on some takes = record {
  items = takes.items;
  fetches = record {
    whole = count;
    left = mid;
    proceeds = on;
    taken = new;
    takes = takes.takes;
    some = omega (arith, takes.counted);
    ends = inl takes.counted;
    keeps = keeps_same new;
  };
  counted = takes.counted;
  pushed = takes.pushed;
}

-- zone_init refused a later item
pub fetches_some : {T K : Type 0} {g : _} {h : _} (old mid new : Keg T K g h) (hooks : K) (ask : FetchAsk) (count taken code : ℕ) (before after : List (Cached T g)) → Proceeds old ask (Gives count) mid → taken ≢ 0 → StopsAtItem mid hooks ask.zone count taken code before after new → FetchesInto old hooks ask taken before after new
fetches_some old mid new hooks ask count taken code before after on some stops = record {
  items = stops.takes.items;
  fetches = record {
    whole = count;
    left = mid;
    proceeds = on;
    taken = stops.left;
    takes = stops.takes.takes;
    some = omega (arith, stops.takes.counted);
    ends = inr (omega (arith, stops.takes.counted, stops.fewer), code, stops.refused);
    keeps = stops.keeps;
  };
  counted = stops.takes.counted;
  pushed = stops.takes.pushed;
}

-- what no items change
none_taken : {T K : Type 0} {g : _} {h : _} (old new : Keg T K g h) (hooks : K) (zone : ℕ) (items : List (Cached T g)) → length items ≡ 0 → TakesItems old hooks zone items new → (places_in new ≡ places_in old) × (zones_in new ≡ zones_in old) × ((n : ℕ) → stored_in new n ≡ stored_in old n) × (items ≡ [])
none_taken old new hooks zone [] none takes = (takes.places, takes.zones, λ n. takes.others n (λ among. among), refl)
none_taken old new hooks zone (item ∷ items) none takes = absurd (omega arith)

-- zone_init refused the first item
pub refused_first : {T K : Type 0} {g : _} {h : _} (old mid new : Keg T K g h) (hooks : K) (ask : FetchAsk) (count code : ℕ) (before after : List (Cached T g)) → Proceeds old ask (Gives count) mid → StopsAtItem mid hooks ask.zone count 0 code before after new → buried_in new ≡ buried_in old → RefusesFetch old hooks ask new (Refused (Init code))
refused_first old mid new hooks ask count code before after on stops buried =
    let none = none_taken mid stops.left hooks ask.zone stops.takes.items stops.takes.counted stops.takes.takes in
    let refused = stops.refused in
    let May : KegPlaces → Type 0 = λ k. MayTake k refused.no in
    let Same : KegPlaces → Type 0 = λ k. SamePlaces k (places_in new) in
    inr (record {
      whole = count;
      left = mid;
      proceeds = on;
      refused = record {
        no = refused.no;
        may = subst May none.0 refused.may;
        stored = refused.stored;
        is_home = sym (none.2 refused.no) ∙ refused.is_home;
        secondary = refused.secondary;
        refused = refused.refused;
        is_code = refused.is_code;
      };
      keeps = record {
        places = subst Same none.0 stops.keeps.places;
        zones = stops.keeps.zones ∙ none.1;
        stored = λ n. stops.keeps.stored n ∙ none.2 n;
      };
      buried = buried;
    })

-- nothing was pushed
pub pushed_none : {T K : Type 0} {g : _} {h : _} (mid new : Keg T K g h) (hooks : K) (zone count code : ℕ) (before after : List (Cached T g)) → StopsAtItem mid hooks zone count 0 code before after new → after ≡ before
pushed_none mid new hooks zone count code before after stops =
    let none = none_taken mid stops.left hooks zone stops.takes.items stops.takes.counted stops.takes.takes in
    stops.takes.pushed ∙ ap (λ items. before ++ items) none.3 ∙ append-nil before

pub zones_none : {T K : Type 0} {g : _} {h : _} (mid new : Keg T K g h) (hooks : K) (zone count code : ℕ) (before after : List (Cached T g)) → StopsAtItem mid hooks zone count 0 code before after new → zones_in new ≡ zones_in mid
zones_none mid new hooks zone count code before after stops = stops.keeps.zones ∙ (none_taken mid stops.left hooks zone stops.takes.items stops.takes.counted stops.takes.takes).1

-- how many are out once the taking stopped
pub out_stopped : {T K : Type 0} {g : _} {h : _} (mid new : Keg T K g h) (hooks : K) (zone count taken code : ℕ) (before after : List (Cached T g)) → StopsAtItem mid hooks zone count taken code before after new → out_in new zone ≡ out_in mid zone + taken
out_stopped mid new hooks zone count taken code before after stops = ap (λ zones. out_of zones zone) stops.keeps.zones ∙ omega (arith, stops.takes.takes.out, stops.takes.counted)

pub outs_stopped : {T K : Type 0} {g : _} {h : _} (mid new : Keg T K g h) (hooks : K) (zone count taken code other : ℕ) (before after : List (Cached T g)) → StopsAtItem mid hooks zone count taken code before after new → other ≢ zone → out_in new other ≡ out_in mid other
outs_stopped mid new hooks zone count taken code other before after stops ne = ap (λ zones. out_of zones other) stops.keeps.zones ∙ stops.takes.takes.outs other ne

-- a fetch that isn't at the limit, once its slabs are in, where its numbers give items
pub record IsReady {T K : Type 0} {g : _} {h : _} (old mid : Keg T K g h) (ask : FetchAsk) (count : ℕ) : Type 0 where
  pub on : Proceeds old ask (Gives count) mid
  pub given : IsGiven ask.most (free_count (places_in mid)) (out_in mid ask.zone) (limit_in mid ask.zone) count

-- a zone below its limit is so still once slabs are in
pub still_below : {T K : Type 0} {g : _} {h : _} (old mid : Keg T K g h) (zone : ℕ) → zones_in mid ≡ zones_in old → limit_in mid zone ≡ limit_in old zone → (0 < limit_in old zone → out_in old zone < limit_in old zone) → 0 < limit_in mid zone → out_in mid zone < limit_in mid zone
still_below old mid zone zones limit below above =
    let out : out_in mid zone ≡ out_in old zone = ap (λ zs. out_of zs zone) zones in
    let less : out_in old zone < limit_in old zone = below (omega (arith, above, limit)) in
    omega (arith, less, out, limit)

-- a fetch that gives no more than its numbers allow leaves at most the limit outside
pub within_taken : {T K : Type 0} {g : _} {h : _} (mid new : Keg T K g h) (zone count taken : ℕ) → out_in new zone ≡ out_in mid zone + taken → taken ≤ count → limit_in new zone ≡ limit_in mid zone → (0 < limit_in mid zone → out_in mid zone + count ≤ limit_in mid zone) → IsWithinLimit new zone
within_taken mid new zone count taken out few limit allowed above =
    let most : out_in mid zone + count ≤ limit_in mid zone = allowed (omega (arith, above, limit)) in
    omega (arith, most, out, few, limit)

pub is_ready : {T K : Type 0} {g : _} {h : _} (old mid : Keg T K g h) (ask : FetchAsk) (count : ℕ) → is_at_limit (found_in old ask.zone) ≡ false → (0 < limit_in old ask.zone → out_in old ask.zone < limit_in old ask.zone) → (brings : (slabs : ℕ) × BringsSlabs old ask.domain slabs mid × ((zone : ℕ) → IsNewSlabs (found_in old zone) slabs)) → zones_in mid ≡ zones_in old → ((zone : ℕ) → limit_in mid zone ≡ limit_in old zone) → IsSameKeg old mid
    → outcome_with (found_in mid ask.zone) (wish_of ask) 0 ≡ Gives count → 1 ≤ ask.most → IsReady old mid ask count
is_ready old mid ask count clear below brings zones limits same gives some =
    let limit : limit_in mid ask.zone ≡ limit_in old ask.zone = limits ask.zone in
    record {
      on = proceeds old mid ask brings.0 (Gives count) clear brings.1 (brings.2 ask.zone) same zones limit gives;
      given = is_given mid ask.zone (wish_of ask) count gives some (still_below old mid ask.zone zones limit below);
    }

-- where nothing moved after a refusal, it stands
moved : {T K : Type 0} {g : _} {h : _} (old mid new : Keg T K g h) → IsUnmoved old mid → IsUnmoved mid new → IsUnmoved old new
moved old mid new first then = record {
  places = then.places ∙ first.places;
  zones = then.zones ∙ first.zones;
  stored = λ n. then.stored n ∙ first.stored n;
  buried = then.buried ∙ first.buried;
}

still_at_slab : {T K : Type 0} {g : _} {h : _} (old mid new : Keg T K g h) (domain : ℕ) (why : FetchRefused) → IsUnmoved mid new → StopsAtSlab old domain why mid → StopsAtSlab old domain why new
still_at_slab old mid new domain why same stops =
    let Refuses' : TallySum → Type 0 = λ buried. RefusesSlab stops.left buried why in
    record {
      slabs = stops.slabs;
      left = stops.left;
      brings = stops.brings;
      same = stops.same;
      fewer = stops.fewer;
      refused = subst Refuses' (sym same.buried) stops.refused;
      places = same.places ∙ stops.places;
      stored = λ n. same.stored n ∙ stops.stored n;
    }

still_kept : {T K : Type 0} {g : _} {h : _} (old mid new : Keg T K g h) → IsUnmoved mid new → KeepsItems old mid → KeepsItems old new
still_kept old mid new same kept =
    let Same : KegPlaces → Type 0 = λ k. SamePlaces (places_in old) k in
    record {
      places = subst Same (sym same.places) kept.places;
      zones = same.zones ∙ kept.zones;
      stored = λ n. same.stored n ∙ kept.stored n;
    }

still_first : {T K : Type 0} {g : _} {h : _} (old mid new : Keg T K g h) (hooks : K) (ask : FetchAsk) (code : ℕ) → IsUnmoved mid new → RefusesFirst old hooks ask code mid → RefusesFirst old hooks ask code new
still_first old mid new hooks ask code same first = record {
  whole = first.whole;
  left = first.left;
  proceeds = first.proceeds;
  refused = first.refused;
  keeps = still_kept first.left mid new same first.keeps;
  buried = same.buried ∙ first.buried;
}

pub still_refused : {T K : Type 0} {g : _} {h : _} (old mid new : Keg T K g h) (hooks : K) (ask : FetchAsk) (why : FetchRefused) → IsUnmoved mid new → RefusesFetch old hooks ask mid why → RefusesFetch old hooks ask new why
still_refused old mid new hooks ask (Refused (AtLimit out limit)) same is = (is.0, is.1, moved old mid new is.2 same)
still_refused old mid new hooks ask (Refused (Full slabs made)) same is = record { left = is.left; proceeds = is.proceeds; unmoved = moved is.left mid new is.unmoved same }
still_refused old mid new hooks ask (Refused (Reserved free reserve)) same is = record { left = is.left; proceeds = is.proceeds; unmoved = moved is.left mid new is.unmoved same }
still_refused old mid new hooks ask (Refused (Init code)) same is = elim is [
  | inl slab ↦ inl (slab.0, still_at_slab old mid new ask.domain (Refused (Init code)) same slab.1)
  | inr first ↦ inr (still_first old mid new hooks ask code same first)
]
still_refused old mid new hooks ask (Refused (Ctor code)) same is = is
still_refused old mid new hooks ask Memory same is = elim is [
  | inl used_up ↦ inl (used_up.0, moved old mid new used_up.1 same)
  | inr slab ↦ inr (slab.0, still_at_slab old mid new ask.domain Memory same slab.1)
]

-- and so do the items that it gave
pub still_fetched : {T K : Type 0} {g : _} {h : _} (old mid new : Keg T K g h) (hooks : K) (ask : FetchAsk) (count : ℕ) (before after : List (Cached T g)) → IsUnmoved mid new → FetchesInto old hooks ask count before after mid → FetchesInto old hooks ask count before after new
still_fetched old mid new hooks ask count before after same into =
    let given = into.fetches in
    record {
      items = into.items;
      fetches = record {
        whole = given.whole;
        left = given.left;
        proceeds = given.proceeds;
        taken = given.taken;
        takes = given.takes;
        some = given.some;
        ends = given.ends;
        keeps = still_kept given.taken mid new same given.keeps;
      };
      counted = into.counted;
      pushed = into.pushed;
    }
