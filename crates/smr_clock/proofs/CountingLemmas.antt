-- The steps of the tests' host keep its rule.
use Rattle.std.proofs.Common.{◌≡◌, ℕ, zero, suc, ◌+◌, ◌≢◌, List, [], ◌∷◌, ◌++◌, length, set, sym, refl, ap, ◌∙◌, subst, arith, ◌⊎◌, inl, inr, ⊎_elim, Option, Some, None, IsSome, slice_index, length-set, get_or-set_same, get_or-set_other}
use Rattle.std.proofs.Math.Seq.{get_or-append_seam}
use Rattle.std.proofs.lemmas.List.{length-append, map-append}
use mathlib.Core.Option.{some, some-injective, some-ne-none}
use lib.ListN.{get_elem?}
use Rattle.smr_core.specs.declared.holder.Phase.TheVariants as phase
use Rattle.smr_core.specs.ClockState.{opening_words}
use Rattle.smr_core.proofs.PlaceLemmas.{at_set, at_push, at_map, map_set}
use Rattle.smr_clock.specs.declared.clock.Setup.{Setup}
use Rattle.smr_clock.specs.declared.view.View.{View}
use Rattle.smr_clock.specs.declared.host.HostAct.{HostAct}
use Rattle.smr_clock.specs.declared.host.HostAct.TheVariants.{Load}
use Rattle.smr_clock.specs.Views.{hosts_of, first_view, spent_view}
use Rattle.smr_clock.specs.Clocked.{Clocked}
use Rattle.smr_clock.specs.Making.{first_words, Opens}
use Rattle.smr_clock.specs.Steps.{write_looking, note_view, joined_view}
use Rattle.smr_clock.specs.HostSteps.{IsHand, HostKeeps, SeatKeeps, SplitKeeps, JoinKeeps, with_host, word_after, looked}
use Rattle.smr_clock.specs.CountingHost.{count_place, KeepsCount, Counted, counts, reads, either_count}
use Rattle.smr_clock.proofs.Kept.{hosts_kept}
use Rattle.smr_clock.proofs.Splits.{hosts_joined, join_clocked}
use Rattle.smr_clock.proofs.HostClocked.{opening-long, opens_clocked, step_clocked, look_clocked, split_clocked}
use Rattle.smr_clock.proofs.SeatSteps.{hand_below, looked_else}

abbrev Views : Type 0
Views = List (View (Option ℕ))

none_is_some : (n : ℕ) → None ≡ Some n → ⊥
none_is_some n e = cc

-- ---- where the clock begins

module _ (a : Setup) (count : ℕ) where
  -- the clock's words, in front of the host's
  abbrev clock_words : List ℕ
  clock_words = opening_words a.config

  only_keeper : (id n : ℕ) → KeepsCount (first_view a (Some count) ∷ []) id n → (id ≡ 0) × (count ≡ n)
  only_keeper zero n keeps = (refl, let e : Some count ≡ Some n = some-injective (Some count) (Some n) keeps in cc)
  only_keeper (suc id) n keeps = absurd (some-ne-none (Some n) (sym keeps))

  pub counting_opens : (more : List ℕ) → more ≡ count ∷ [] → Opens Counted a (Some count) more
  counting_opens more one_word r =
      let place : count_place a ≡ length clock_words = sym (opening-long a.config) in
      let at : slice_index (first_words a (count ∷ [])) (count_place a) ≡ count =
      ap (λ (n : ℕ). slice_index (first_words a (count ∷ [])) n) place
      ∙ get_or-append_seam clock_words count [] 0 in
      subst (λ (m : List ℕ). Counted a (first_words a m) (first_view a (Some count) ∷ [])) (sym one_word)
      (record {
        clock = opens_clocked a (Some count) (count ∷ []) r;
        there = let all : length (clock_words ++ count ∷ []) ≡ length clock_words + 1 = length-append clock_words (count ∷ []) in let long = opening-long a.config in omega arith;
        known = λ id n keeps. at ∙ (only_keeper id n keeps).1;
        one = λ id else n m p q. (only_keeper id n p).0 ∙ sym (only_keeper else m q).0;
      })

-- ---- steps

module _ (a : Setup) (ws : List ℕ) (vs : Views) (id : ℕ) (v : View (Option ℕ)) (held : Counted a ws vs) (at : get_elem? vs id ≡ some v) where
  -- neither the word nor a host part changes
  still : (ws' : List ℕ) (vs' : Views) → Clocked a ws' vs' → length ws' ≡ length ws → slice_index ws' (count_place a) ≡ slice_index ws (count_place a) → hosts_of vs' ≡ hosts_of vs → Counted a ws' vs'
  still ws' vs' c as_many same hosts =
      record {
        clock = c;
        there = let before = held.there in omega arith;
        known = λ j n keeps. same ∙ held.known j n (subst (λ (l : List (Option ℕ)). get_elem? l j ≡ some (Some n)) hosts keeps);
        one = λ i j n m p q.
            held.one i j n m (subst (λ (l : List (Option ℕ)). get_elem? l i ≡ some (Some n)) hosts p) (subst (λ (l : List (Option ℕ)). get_elem? l j ≡ some (Some m)) hosts q);
      }

  here : (n : ℕ) → v.host ≡ Some n → KeepsCount vs id n
  here n e = at_map (λ (x : View (Option ℕ)). x.host) vs id v at ∙ ap (λ (o : Option ℕ). some o) e

  -- the keeper writes
  module _ (n : ℕ) (mine : v.host ≡ Some n) (value : ℕ) where
    keeper : (j m : ℕ) → KeepsCount (set vs id (with_host v (Some value))) j m → (j ≡ id) × (value ≡ m)
    keeper j m keeps =
        ⊎_elim
        (λ t. (t.0, let e : Some value ≡ Some m = t.1 in cc))
        (λ t. absurd (t.0 (held.one j id m n t.1 (here n mine))))
        (at_set (hosts_of vs) id j (Some value) (Some m)
        (subst (λ (l : List (Option ℕ)). get_elem? l j ≡ some (Some m)) (map_set (λ (x : View (Option ℕ)). x.host) vs id (with_host v (Some value))) keeps))

    stores : v.setup ≡ a → Counted a (set ws (count_place a) value) (set vs id (with_host v (Some value)))
    stores own =
        record {
          clock = step_clocked ws vs id v a held.clock at own (count_place a) value (Some value) (omega arith);
          there = let before = held.there in let same = length-set ws (count_place a) value in omega arith;
          known = λ j m keeps. get_or-set_same ws (count_place a) value 0 held.there ∙ (keeper j m keeps).1;
          one = λ i j m k p q. (keeper i m p).0 ∙ sym (keeper j k q).0;
        }

  -- a split after which the new seat keeps what the old one kept
  handed : (j m : ℕ) → KeepsCount (set vs id (with_host v None) ++ note_view (λ part. part) v ∷ []) j m → ((j ≢ id) × KeepsCount vs j m) ⊎ ((j ≡ length vs) × KeepsCount vs id m)
  handed j m keeps =
      let hosts = map-append (λ (x : View (Option ℕ)). x.host) (set vs id (with_host v None)) (note_view (λ part. part) v ∷ [])
      ∙ ap (λ (l : List (Option ℕ)). l ++ v.host ∷ []) (map_set (λ (x : View (Option ℕ)). x.host) vs id (with_host v None)) in
      ⊎_elim
      (λ t. ⊎_elim (λ u. absurd (none_is_some m u.1)) (λ u. inl (u.0, u.1)) (at_set (hosts_of vs) id j None (Some m) t))
      (λ t. inr (t.0 ∙ length-set (hosts_of vs) id None ∙ long vs, here m t.1))
      (at_push (set (hosts_of vs) id None) v.host (Some m) j (subst (λ (l : List (Option ℕ)). get_elem? l j ≡ some (Some m)) hosts keeps))
    where
      long : (l : Views) → length (hosts_of l) ≡ length l
      long [] = refl
      long (x ∷ xs) = ap suc (long xs)

  hands_over : v.setup ≡ a → Counted a ws (set vs id (with_host v None) ++ note_view (λ part. part) v ∷ [])
  hands_over own =
      record {
        clock = split_clocked ws vs id v a held.clock at own None (λ part. part);
        there = held.there;
        known = λ j m keeps. ⊎_elim (λ t. held.known j m t.1) (λ t. held.known id m t.1) (handed j m keeps);
        one = λ i j m k p q.
            ⊎_elim
            (λ t. ⊎_elim (λ u. held.one i j m k t.1 u.1) (λ u. absurd (t.0 (held.one i id m k t.1 u.1))) (handed j k q))
            (λ t. ⊎_elim (λ u. absurd (u.0 (held.one j id k m u.1 t.1))) (λ u. t.0 ∙ sym u.0) (handed j k q))
            (handed i m p);
      }

  -- a join after which the first seat keeps what the other kept
  module _ (else : ℕ) (other : View (Option ℕ)) (there : get_elem? vs else ≡ some other) (none : v.host ≡ None) where
    taken : (j m : ℕ) → KeepsCount (set (set vs id (joined_view either_count v other)) else (spent_view None)) j m
        → ((j ≡ id) × KeepsCount vs else m) ⊎ ((j ≢ else) × KeepsCount vs j m)
    taken j m keeps =
        let both : either_count v.host other.host ≡ other.host = ap (λ (o : Option ℕ). either_count o other.host) none in
        ⊎_elim
        (λ t. absurd (none_is_some m t.1))
        (λ t.
        ⊎_elim
        (λ u. inl (u.0, at_map (λ (x : View (Option ℕ)). x.host) vs else other there ∙ ap (λ (o : Option ℕ). some o) (sym both ∙ u.1)))
        (λ u. inr (t.0, u.1))
        (at_set (hosts_of vs) id j (either_count v.host other.host) (Some m) t.1))
        (at_set (set (hosts_of vs) id (either_count v.host other.host)) else j None (Some m)
        (subst (λ (l : List (Option ℕ)). get_elem? l j ≡ some (Some m)) (hosts_joined either_count None vs id else v other) keeps))

    takes_back : (else ≡ id → ⊥) → v.setup ≡ a → other.holder.phase ≡ phase.Note → Counted a ws (set (set vs id (joined_view either_count v other)) else (spent_view None))
    takes_back apart own is_note =
        record {
          clock = join_clocked either_count None vs id else v other a ws held.clock at there apart own is_note;
          there = held.there;
          known = λ j m keeps. ⊎_elim (λ t. held.known else m t.1) (λ t. held.known j m t.1) (taken j m keeps);
          one = λ i j m k p q.
              ⊎_elim
              (λ t. ⊎_elim (λ u. t.0 ∙ sym u.0) (λ u. absurd (u.0 (held.one j else k m u.1 t.1))) (taken j k q))
              (λ t. ⊎_elim (λ u. absurd (t.0 (held.one i else m k t.1 u.1))) (λ u. held.one i j m k t.1 u.1) (taken j k q))
              (taken i m p);
        }

-- ---- what the calls ask

module _ (a : Setup) (id : ℕ) (v : View (Option ℕ)) (own : v.setup ≡ a) where
  some_count : (o : Option ℕ) → IsSome o → (n : ℕ) × (o ≡ Some n)
  some_count None s = absurd (cc)
  some_count (Some n) s = (n, refl)

  pub counts_keep : (word : ℕ) (act : HostAct) → word ≡ count_place a → IsSome v.host → SeatKeeps Counted a id v word act counts
  counts_keep word act place keeps =
      subst (λ (w : ℕ). SeatKeeps Counted a id v w act counts) (sym place)
      (λ ws vs held at small.
      let n = some_count v.host keeps in
      let found : slice_index ws (count_place a) ≡ n.0 = held.known id n.0 (here a ws vs id v held at n.0 n.1) in (
        Some (word_after act (slice_index ws (count_place a))),
        (n.1 ∙ ap (λ (m : ℕ). Some m) (sym found), refl),
        subst (λ (x : View (Option ℕ)). Counted a (set ws (count_place a) (word_after act (slice_index ws (count_place a)))) (set vs id (with_host x (Some (word_after act (slice_index ws (count_place a)))))))
            (sym (looked_else v (count_place a) (slice_index ws (count_place a)) (omega arith)))
            (stores a ws vs id v held at n.0 n.1 (word_after act (slice_index ws (count_place a))) own),
      ))

  pub reads_keep : (word : ℕ) → word ≡ count_place a → HostKeeps Counted a id v word Load reads
  reads_keep word place =
      subst (λ (w : ℕ). HostKeeps Counted a id v w Load reads) (sym place)
      (λ ws vs held at small. (
        v.host,
        refl,
        still a ws vs id v held at (set ws (count_place a) (slice_index ws (count_place a))) (set vs id (with_host v v.host))
            (step_clocked ws vs id v a held.clock at own (count_place a) (slice_index ws (count_place a)) v.host (omega arith))
            (length-set ws (count_place a) (slice_index ws (count_place a)))
            (get_or-set_same ws (count_place a) (slice_index ws (count_place a)) 0 held.there)
            (hosts_kept a vs id v (with_host v v.host) at refl),
      ))

  pub hand_keep : (word : ℕ) → IsHand word → SeatKeeps Counted a id v word Load reads
  hand_keep word hand ws vs held at small = (
    v.host,
    refl,
    still a ws vs id v held at (set ws word (slice_index ws word)) (set vs id (with_host (looked v word (slice_index ws word)) v.host))
        (look_clocked ws vs id v a held.clock at own word v.host hand)
        (length-set ws word (slice_index ws word))
        (get_or-set_other ws word (count_place a) (slice_index ws word) 0 (λ e. let below = hand_below a.config word hand in omega arith))
        (hosts_kept a vs id v (with_host (looked v word (slice_index ws word)) v.host) at refl),
  )

  pub over_keep : SplitKeeps Counted a id v (λ part. None) (λ part. part)
  over_keep found is ws vs held at = hands_over a ws vs id (write_looking v found) held at own

  pub back_keep : (else : ℕ) (other : View (Option ℕ)) → v.host ≡ None → other.holder.phase ≡ phase.Note → JoinKeeps Counted a id v else other either_count None
  back_keep else other none is_note ws vs held at there apart = takes_back a ws vs id v held at else other there none apart own is_note
