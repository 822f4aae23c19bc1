-- A full bucket goes on the shelf.
use Rattle.std.proofs.Common.{◌≡◌, ℕ, List, [], ◌∷◌, ◌++◌, Option, Some, None, IfSome, IfNone, slice_set, sym, ap, ◌∙◌, subst}
use Rattle.std.specs.List.{All}
use Rattle.std.proofs.lemmas.List.Elements.{All-push, All-nil, All-head, All-tail}
use Rattle.uma_life.specs.declared.states.Cached.{Cached}
use Rattle.smr_clock.specs.declared.view.View.{View}
use Rattle.uma_life.specs.declared.states.Live.{Live}
use Rattle.uma_bucket.specs.declared.bucket.Bucket.{Bucket}
use Rattle.uma_bucket.specs.declared.freed.Loose.{Loose}
use Rattle.uma_bucket.specs.declared.shelved.Shelved.{Shelved}
use Rattle.uma_bucket.specs.declared.shelved.Shelved.TheVariants.{Plain}
use Rattle.uma_seat.specs.declared.seat.SeatCache.{SeatCache}
use Rattle.uma_seat.specs.Stack.{stack_of, loose_stack, stack_at, with_item, empty_stack}
use Rattle.uma_seat.specs.Seat.{plain_of, freed_of, shelf_of, spares_of}
use Rattle.uma_seat.specs.Freeing.{ShelvesPlain, IsTried, ShelvesFreed}

-- what holds of all on the shelf holds with one more
pub All-shelved : {X : Type 0} (P : X → Type 0) (old mid new : List X) (x : X) → mid ≡ old → new ≡ mid ++ x ∷ [] → All P old → P x → All P new
All-shelved P old mid new x same put all here = subst (All P) (sym (put ∙ ap (λ (l : List _). l ++ x ∷ []) same)) (All-push P old x all here)

module _ {T H P : Type 0} {g h : _} where
  pub plain_shelved : (old new : SeatCache T H P g h) (domain own : ℕ) (item : Cached T g) (bucket : Bucket T g) (mid : List (Shelved T H P g h)) (kept : List ℕ) (room : ℕ) → domain ≡ own
      → stack_of bucket ≡ with_item (stack_at (plain_of old) domain) item → mid ≡ shelf_of old → shelf_of new ≡ mid ++ Plain domain bucket ∷ [] → spares_of old ≡ kept ++ room ∷ [] → spares_of new ≡ kept
      → plain_of new ≡ slice_set (plain_of old) domain (empty_stack room)
      → ShelvesPlain old own (with_item (stack_at (plain_of old) own) item) new
  plain_shelved old new domain own item bucket mid kept room is full same put taken left set =
      subst (λ (d : ℕ). ShelvesPlain old d (with_item (stack_at (plain_of old) d) item) new) is
      (record {
        bucket = bucket;
        room = room;
        is_full = full;
        shelf = put ∙ ap (λ (l : List (Shelved T H P g h)). l ++ Plain domain bucket ∷ []) same;
        spares = taken ∙ ap (λ (l : List ℕ). l ++ room ∷ []) (sym left);
        buckets = set;
      })

-- what holds of all on the shelf holds of the oldest, if it is taken, and of the rest
pub All-taken : {X : Type 0} (P : X → Type 0) (old new : List X) (oldest : Option X) → IfSome oldest (λ x. old ≡ x ∷ new) → IfNone oldest (new ≡ []) → All P old → All P new × IfSome oldest P
All-taken P old new None was none all = (subst (All P) (sym none) (All-nil P), tt)
All-taken P old new (Some x) was none all =
    let both : All P (x ∷ new) = subst (All P) was all in
    (All-tail P x new both, All-head P x new both)

module _ {T H P : Type 0} {g h : _} (copied : P → P) (v v' : View P) where
  pub freed_shelved : (old new : SeatCache T H P g h) (domain own : ℕ) (item : Live T g) (loose : Loose T g) (newest : Shelved T H P g h) (mid : List (Shelved T H P g h)) (kept : List ℕ) (room taken_room : ℕ) → domain ≡ own → room ≡ taken_room
      → loose_stack loose ≡ with_item (stack_at (freed_of old) domain) item → IsTried copied v domain loose newest v'
      → mid ≡ shelf_of old → shelf_of new ≡ mid ++ newest ∷ [] → spares_of old ≡ kept ++ taken_room ∷ [] → spares_of new ≡ kept
      → freed_of new ≡ slice_set (freed_of old) domain (empty_stack room)
      → ShelvesFreed copied v old own (with_item (stack_at (freed_of old) own) item) new v'
  freed_shelved old new domain own item loose newest mid kept room taken_room is same_room full tried same put taken left set =
      subst (λ (d : ℕ). ShelvesFreed copied v old d (with_item (stack_at (freed_of old) d) item) new v') is
      (record {
        loose = loose;
        newest = newest;
        room = taken_room;
        is_full = full;
        tried = tried;
        shelf = put ∙ ap (λ (l : List (Shelved T H P g h)). l ++ newest ∷ []) same;
        spares = taken ∙ ap (λ (l : List ℕ). l ++ taken_room ∷ []) (sym left);
        buckets = set ∙ ap (λ (n : ℕ). slice_set (freed_of old) domain (empty_stack n)) same_room;
      })
