-- Imports one after another, and releases.
use Rattle.std.proofs.Common.{◌≡◌, ◌≢◌, ℕ, List, [], ◌∷◌, ◌++◌, Option, Some, None, All, inl, inr, refl, sym, ap, ◌∙◌, subst, arith, append_assoc}
use Rattle.std.specs.Prelude.{Result, Ok, Err, OnOk, IfErr, slice_get, slice_set}
use Rattle.std.proofs.lemmas.List.Elements.{All-push, All-weaker}
use Rattle.uma_zcache.specs.declared.cache.Held.{Held}
use Rattle.uma_zcache.specs.declared.cache.ZKey.{ZKey}
use Rattle.uma_zcache.specs.declared.locked.LockedCache.{LockedCache}
use Rattle.uma_zcache.specs.declared.refused.ZAllocRefused.{ZAllocRefused}
use Rattle.uma_zcache.specs.Entries.{IsOutWith}
use Rattle.uma_zcache.specs.Held.{held_base, held_no, held_book}
use Rattle.uma_zcache.specs.Imports.{HasEntry, Imports, RefusesImport, ImportsAll, StopsImporting, Fills}
use Rattle.uma_zcache.specs.Locked.{entries_in, book_in, IsSound, IsSameCache, CountsNothing}
use Rattle.uma_zcache.specs.Releases.{Releases, ReleasesAll}
use Rattle.uma_zcache.specs.Rounds.{ImportsFull, StopsShort}
use Rattle.uma_zcache.specs.Rule.{Keeps}
use Rattle.uma_zcache.proofs.Counts.{get_set_here, get_set_else}

-- a number that goes out isn't one that is out
other_number : (entries : List (Option ℕ)) (n m base : ℕ) → slice_get entries n ≡ Some (Some base) → slice_get entries m ≡ Some None → n ≢ m
other_number entries n m base out home same =
    let both : slice_get entries m ≡ Some (Some base) = subst (λ (k : ℕ). slice_get entries k ≡ Some (Some base)) same out in
    absurd (grind arith)

append_nil : {X : Type 0} (xs : List X) → xs ++ [] ≡ xs
append_nil [] = refl
append_nil (x ∷ xs) = ap (λ l. x ∷ l) (append_nil xs)

module _ {I : Type 0} {g : _} where
  pub same_cache : (old mid new : LockedCache I g) → IsSameCache old mid → IsSameCache mid new → IsSameCache old new
  same_cache old mid new a b = record { book = b.book ∙ a.book; fails = b.fails ∙ a.fails }

  pub nothing_counted : (old mid new : LockedCache I g) → CountsNothing old mid → CountsNothing mid new → CountsNothing old new
  nothing_counted old mid new a b = record { causes = b.causes ∙ a.causes; turned = b.turned ∙ a.turned }

  pub keeps_on : (key : ZKey) (old new : LockedCache I g) → IsSameCache old new → IsSound new → Keeps key old → Keeps key new
  keeps_on key old new same sound keeps = record { book = same.book ∙ keeps.book; fails = same.fails ∙ keeps.fails; sound = sound }

  pub more_imports : (old mid new : LockedCache I g) (items : List Held) (held : Held) → ImportsAll old items mid → Imports mid held new → ImportsAll old (items ++ held ∷ []) new
  more_imports old mid new [] held none one = (new, subst (λ (m : LockedCache I g). Imports m held new) none one, refl)
  more_imports old mid new (first ∷ items) held some one = (some.0, some.1, more_imports some.0 mid new items held some.2 one)

  -- each item has its number's entry still, and the new one has too
  pub more_entries : (mid new : LockedCache I g) (items : List Held) (held : Held) → All (HasEntry mid) items → Imports mid held new → All (HasEntry new) (items ++ held ∷ [])
  more_entries mid new items held all one =
      let E : List (Option ℕ) → Held → Type 0 = λ es h. IsOutWith es (held_no h) (held_base h) in
      let es = slice_set (entries_in mid) (held_no held) (Some (held_base held)) in
      let still : All (E es) items = All-weaker (E (entries_in mid)) (E es) (λ h at. get_set_else (entries_in mid) (held_no held) (held_no h) (Some (held_base held)) (other_number (entries_in mid) (held_no h) (held_no held) (held_base h) at one.home) ∙ at) items all in
      let here : E es held = get_set_here (entries_in mid) (held_no held) (Some (held_base held)) None one.home in
      subst (λ (l : List (Option ℕ)). All (E l) (items ++ held ∷ [])) (sym one.entries) (All-push (E es) items held still here)

  pub more_books : (old mid : LockedCache I g) (items : List Held) (held : Held) → IsSameCache old mid → held_book held ≡ book_in mid → All (λ h. held_book h ≡ book_in old) items → All (λ h. held_book h ≡ book_in old) (items ++ held ∷ [])
  more_books old mid items held same here all = All-push (λ h. held_book h ≡ book_in old) items held all (here ∙ same.book)

  pub stops : (old mid new : LockedCache I g) (items : List Held) (why : ZAllocRefused) → ImportsAll old items mid → RefusesImport mid why new → StopsImporting old items why new
  stops old mid new items why imports refused = record { left = mid; imports = imports; refused = refused }

  pub fills : (old new : LockedCache I g) (bucket : ℕ) (items : List Held) (end : Result (Unit {0}) ZAllocRefused) → OnOk end (ImportsFull bucket old items new) → IfErr end (λ why. StopsShort bucket old items why new) → Fills old bucket items new
  fills old new bucket items (Ok done) whole stopped = inl (whole.full, whole.all)
  fills old new bucket items (Err why) whole stopped = inr (stopped.fewer, why, stopped.stops)

  -- so far the last of them were released
  pub record ReleasesLast (old : LockedCache I g) (all left : List Held) (now : LockedCache I g) : Type 0 where
    pub done : List Held
    pub order : all ≡ left ++ done
    pub releases : ReleasesAll old done now

  pub releases_more : (old mid new : LockedCache I g) (all left rest : List Held) (held : Held) → ReleasesLast old all left mid → left ≡ rest ++ held ∷ [] → Releases mid held new → ReleasesLast old all rest new
  releases_more old mid new all left rest held last popped one = record {
    done = held ∷ last.done;
    order = last.order ∙ ap (λ (l : List Held). l ++ last.done) popped ∙ append_assoc rest (held ∷ []) last.done;
    releases = (mid, last.releases, one);
  }
