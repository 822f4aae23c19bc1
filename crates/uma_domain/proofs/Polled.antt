-- One poll of the bucket at a place, and a scan by such polls.
use Rattle.std.proofs.Common.{◌≡◌, ◌<◌, ◌≤◌, ◌+◌, ℕ, List, [], ◌∷◌, ◌++◌, length, take, drop, set, get_or, Some, None, All, sym, ap, ◌∙◌, subst, append_assoc, arith, true}
use Rattle.std.specs.List.{remove}
use Rattle.std.proofs.lemmas.List.{drop_more, drop_at, take_at, length-take-le, take_all, drop_all, append-nil}
use Rattle.std.proofs.lemmas.List.Elements.{All-get_or, all_zip_more, length_all_zip}
use Rattle.smr_clock.specs.declared.clock.Setup.{Setup}
use Rattle.smr_clock.specs.Belongs.{TableId}
use Rattle.smr_clock.specs.Goals.{tag_of}
use Rattle.smr_clock.specs.Notes.{note_clock, note_knows}
use Rattle.smr_clock.specs.Polls.{Polls}
use Rattle.uma_bucket.specs.declared.freed.Sealed.{Sealed}
use Rattle.uma_bucket.specs.declared.freed.Ripe.{Ripe}
use Rattle.uma_bucket.specs.Ripe.{ripe_bucket, ripe_goal, ripe_note}
use Rattle.uma_bucket.specs.Sealed.{sealed_bucket, sealed_goal, sealed_note, sealed_knows, IsSealedAt, IsSameBucket, IsPolled, SaidNo}
use Rattle.uma_domain.specs.Scans.{Stays, AllStay, TakesRipe, TriesAt}
use Rattle.uma_domain.proofs.Places.{split_at, set_at, remove_after_set, from_place, same_head}

module _ {T H P : Type 0} {g h : _} where
  here_at : (clock : TableId × Setup) (xs : List (Sealed T H P g h)) (at : ℕ) (was : Sealed T H P g h) → at < length xs → was ≡ get_or xs at was → All (IsSealedAt clock) xs → IsSealedAt clock was
  here_at clock xs at was within there here = subst (IsSealedAt clock) (sym there) (All-get_or (IsSealedAt clock) xs at was within here)

  pub not_ripe : (clock : TableId × Setup) (xs : List (Sealed T H P g h)) (at : ℕ) (was is : Sealed T H P g h) → at < length xs → was ≡ get_or xs at was → All (IsSealedAt clock) xs
      → SaidNo was is → IsSealedAt clock is → TriesAt xs at None (set xs at is)
  not_ripe clock xs at was is within there here denied new = record {
    bucket = was;
    there = there;
    split = split_at xs at was within there;
    taken = tt;
    stays = (is, record { no = denied; clock = new ∙ sym (here_at clock xs at was within there here) }, set_at xs at is within);
  }

  pub was_ripe : (clock : TableId × Setup) (xs : List (Sealed T H P g h)) (at : ℕ) (was is : Sealed T H P g h) (ripe : Ripe T H P g h) (ys : List (Sealed T H P g h)) → at < length xs → was ≡ get_or xs at was → All (IsSealedAt clock) xs
      → IsSameBucket was is → IsPolled was true is → IsSealedAt clock is
      → ripe_bucket ripe ≡ sealed_bucket is → ripe_goal ripe ≡ sealed_goal is → ripe_note ripe ≡ sealed_note is → ys ≡ remove (set xs at is) at → TriesAt xs at (Some ripe) ys
  was_ripe clock xs at was is ripe ys within there here same polled new bucket goal note left = record {
    bucket = was;
    there = there;
    split = split_at xs at was within there;
    taken = (
      record {
        yes = (bucket ∙ same.0, goal ∙ same.1, subst (λ n. Polls (sealed_knows was) (tag_of (sealed_goal was)) true (note_knows n)) (sym note) polled);
        clock = ap note_clock note ∙ new ∙ sym (here_at clock xs at was within there here);
      },
      left ∙ remove_after_set xs at is,
    );
    stays = tt;
  }

  -- a scan that has polled the buckets before a place, each of which said no
  pub record Scanned (was : List (Sealed T H P g h)) (at : ℕ) (is : List (Sealed T H P g h)) : Type 0 where
    pub stay : List (Sealed T H P g h)
    pub said_no : AllStay (take at was) stay
    pub split : is ≡ stay ++ drop at was

  -- what a try at the next place finds: the next bucket, behind those that stay
  record Found (was : List (Sealed T H P g h)) (at : ℕ) (is stay : List (Sealed T H P g h)) (bucket : Sealed T H P g h) : Type 0 where
    there : bucket ≡ get_or was at bucket
    front : take at is ≡ stay
    back : drop (at + 1) is ≡ drop (at + 1) was

  found : (was : List (Sealed T H P g h)) (at : ℕ) (is : List (Sealed T H P g h)) (stay : List (Sealed T H P g h)) (bucket : Sealed T H P g h) → at < length was → AllStay (take at was) stay → is ≡ stay ++ drop at was → is ≡ take at is ++ bucket ∷ drop (at + 1) is → at ≤ length is → Found was at is stay bucket
  found was at is stay bucket within said_no split here in_is =
      let long : length stay ≡ at = sym (length_all_zip Stays (take at was) stay said_no) ∙ length-take-le at was (omega arith) in
      let front : take at is ≡ stay = ap (take at) split ∙ take_at stay (drop at was) at long in
      let rest : drop at is ≡ drop at was = ap (drop at) split ∙ drop_at stay (drop at was) at long in
      let next : bucket ∷ drop (at + 1) is ≡ get_or was at bucket ∷ drop (at + 1) was = sym (from_place is at (bucket ∷ drop (at + 1) is) in_is here) ∙ rest ∙ drop_more was at bucket within in
      let same = same_head bucket (get_or was at bucket) (drop (at + 1) is) (drop (at + 1) was) next in
      record { there = same.0; front = front; back = same.1 }

  pub scan_more : (was : List (Sealed T H P g h)) (at : ℕ) (is next : List (Sealed T H P g h)) → at < length was → at ≤ length is → Scanned was at is → TriesAt is at None next → Scanned was (at + 1) next
  scan_more was at is next within in_is scanned tries =
      let f = found was at is scanned.stay tries.bucket within scanned.said_no scanned.split tries.split in_is in
      let s = tries.stays in
      record {
        stay = scanned.stay ++ s.0 ∷ [];
        said_no = all_zip_more Stays was scanned.stay at tries.bucket s.0 within f.there scanned.said_no s.1;
        split = s.2 ∙ ap (λ (front : List (Sealed T H P g h)). front ++ s.0 ∷ drop (at + 1) is) f.front ∙ ap (λ (back : List (Sealed T H P g h)). scanned.stay ++ s.0 ∷ back) f.back ∙ sym (append_assoc scanned.stay (s.0 ∷ []) (drop (at + 1) was));
      }

  pub scan_takes : (was : List (Sealed T H P g h)) (at : ℕ) (is next : List (Sealed T H P g h)) (ripe : Ripe T H P g h) → at < length was → at ≤ length is → Scanned was at is → TriesAt is at (Some ripe) next → TakesRipe was ripe next
  scan_takes was at is next ripe within in_is scanned tries =
      let f = found was at is scanned.stay tries.bucket within scanned.said_no scanned.split tries.split in_is in
      record {
        before = take at was;
        stay = scanned.stay;
        taken = tries.bucket;
        behind = drop (at + 1) was;
        split = split_at was at tries.bucket within f.there;
        said_no = scanned.said_no;
        said_yes = tries.taken.0;
        rest = tries.taken.1 ∙ ap (λ (front : List (Sealed T H P g h)). front ++ drop (at + 1) is) f.front ∙ ap (λ (back : List (Sealed T H P g h)). scanned.stay ++ back) f.back;
      }

  pub all_scanned : (was : List (Sealed T H P g h)) (at : ℕ) (is : List (Sealed T H P g h)) → length was ≤ at → Scanned was at is → AllStay was is
  all_scanned was at is past scanned =
      let whole : is ≡ scanned.stay = scanned.split ∙ ap (λ (back : List (Sealed T H P g h)). scanned.stay ++ back) (drop_all at was past) ∙ append-nil scanned.stay in
      subst (λ (xs : List (Sealed T H P g h)). AllStay xs is) (take_all at was past) (subst (λ (ys : List (Sealed T H P g h)). AllStay (take at was) ys) (sym whole) scanned.said_no)
