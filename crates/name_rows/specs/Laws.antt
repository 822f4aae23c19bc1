-- Each step of the clock keeps the law of names: what the names' host owes the clock.
use Rattle.std.specs.Prelude.{◌≡◌, ℕ, zero, suc, ◌≤◌, ◌⊎◌, List, [], ◌∷◌, ◌++◌, length, slice_index, slice_set as set, Bool, IsTrue, false, true, Option, Some, None}
use Rattle.std.proofs.Common.{refl, sym, ap, subst, ◌∙◌, ◌≢◌, inl, inr, ⊎_elim, le_trans, le-add_right}
use mathlib.Core.Option.{some, some-injective, some-ne-none}
use lib.ListN.{get_elem?}
use Rattle.smr_core.specs.ClockState.{place_after_seats, write_hand, read_hand}
use Rattle.smr_core.proofs.PlaceLemmas.{at_set, at_push, at_longer, at_map, set_else}
use Rattle.smr_clock.specs.declared.clock.Setup.{Setup}
use Rattle.smr_clock.specs.declared.view.View.{View}
use Rattle.smr_clock.specs.Views.{hosts_of}
use Rattle.smr_clock.specs.HostLaws.{Includes, FrameLaw, SplitLaw, JoinLaw}
use Rattle.name_rows.specs.declared.names.Record.{Record}
use Rattle.name_rows.specs.declared.names.RowView.{RowView}
use Rattle.name_rows.specs.declared.names.Hold.{Hold}
use Rattle.name_rows.specs.declared.entry.Owned.{Owned}
use Rattle.name_rows.specs.declared.names.Part.{Part}
use Rattle.name_rows.specs.Records.{In, row_place, key_place, value_place, row_word, records_of, Has, IsRow, OwnsIt, HoldsIt, KnowsIt, blank_part, told, learned, owns_nothing, may_note}
use Rattle.name_rows.specs.NamesLaw.{RowFitsAt, OwnedFits, HoldFits, IsRecord, Held, Named}

-- ---- lists

module _ {A : Type 0} where
  pub in_either : (l m : List A) (a : A) → In a (l ++ m) → In a l ⊎ In a m
  in_either [] m a h = inr h
  in_either (x ∷ xs) m a h = ⊎_elim (λ e. inl (inl e)) (λ t. ⊎_elim (λ u. inl (inr u)) (λ u. inr u) (in_either xs m a t)) h

  pub in_left : (l m : List A) (a : A) → In a l → In a (l ++ m)
  in_left [] m a h = absurd h
  in_left (x ∷ xs) m a h = ⊎_elim (λ e. inl e) (λ t. inr (in_left xs m a t)) h

  pub in_right : (l m : List A) (a : A) → In a m → In a (l ++ m)
  in_right [] m a h = h
  in_right (x ∷ xs) m a h = inr (in_right xs m a h)

pub none_is_some : {A : Type 0} (a : A) → None ≡ Some a → ⊥
none_is_some {A} a e = subst IsNone e tt
  where
    IsNone : Option A → Type 0
    IsNone None = Unit {0}
    IsNone (Some b) = ⊥

module _ (F : Part → Type 0) where
  -- what is so of the old part of a seat, and then of its new one, stays so of the seat; of the other seats it stays so
  pub has_kept : (l : List Part) (i j : ℕ) (x p : Part) → get_elem? l i ≡ some p → (F p → F x) → Has l j F → Has (set l i x) j F
  has_kept [] i j x p e f h = absurd (some-ne-none p (sym e))
  has_kept (y ∷ ys) zero zero x p e f h = (x, refl, f (subst F (sym (some-injective y h.0 h.1) ∙ some-injective y p e) h.2))
  has_kept (y ∷ ys) zero (suc j) x p e f h = h
  has_kept (y ∷ ys) (suc i) zero x p e f h = h
  has_kept (y ∷ ys) (suc i) (suc j) x p e f h = has_kept ys i j x p e f h

  -- what is so of a seat after one part was written: it is that part, or it was so of another seat
  pub has_set : (l : List Part) (i j : ℕ) (x : Part) → Has (set l i x) j F → ((j ≡ i) × F x) ⊎ ((j ≢ i) × Has l j F)
  has_set l i j x h = ⊎_elim (λ t. inl (t.0, subst F (sym t.1) h.2)) (λ t. inr (t.0, (h.0, t.1, h.2))) (at_set l i j x h.0 h.1)

  pub has_push : (l : List Part) (j : ℕ) (x : Part) → Has (l ++ x ∷ []) j F → Has l j F ⊎ ((j ≡ length l) × F x)
  has_push l j x h = ⊎_elim (λ t. inl (h.0, t, h.2)) (λ t. inr (t.0, subst F (sym t.1) h.2)) (at_push l x h.0 j h.1)

  pub has_longer : (l m : List Part) (j : ℕ) → Has l j F → Has (l ++ m) j F
  has_longer l m j h = (h.0, at_longer l m j h.0 h.1, h.2)

-- ---- steps after which each seat has its rows and its entries, and the words of the names are as they were

-- the same seats have the same rows and entries
pub record Alike (ps ps' : List Part) : Type 0 where
  pub rows_back : (at : ℕ) (v : RowView) → Has ps' at (IsRow v) → Has ps at (IsRow v)
  pub rows_on : (at : ℕ) (v : RowView) → Has ps at (IsRow v) → Has ps' at (IsRow v)
  pub owned_back : (at : ℕ) (o : Owned) → Has ps' at (OwnsIt o) → Has ps at (OwnsIt o)
  pub owned_on : (at : ℕ) (o : Owned) → Has ps at (OwnsIt o) → Has ps' at (OwnsIt o)

-- no hand is lower, and the words behind the seats' words are the same
pub record Quiet (a : Setup) (ws ws' : List ℕ) : Type 0 where
  pub write_not_lower : write_hand ws ≤ write_hand ws'
  pub read_not_lower : read_hand ws ≤ read_hand ws'
  pub as_many : length ws' ≡ length ws
  pub host_words : (i : ℕ) → place_after_seats a.config ≤ i → slice_index ws' i ≡ slice_index ws i

module _ (a : Setup) (ws ws' : List ℕ) (ps ps' : List Part) (held : Held a ws ps) (quiet : Quiet a ws ws') (alike : Alike ps ps') where
  row_word_same : (v : RowView) → row_word a ws' v ≡ row_word a ws v
  row_word_same v = quiet.host_words (row_place a v.number) (le-add_right (place_after_seats a.config) v.number)

  row_same : (at : ℕ) (v : RowView) → RowFitsAt a (row_word a ws v) ps at v → RowFitsAt a (row_word a ws' v) ps' at v
  row_same at v fits =
      subst (λ (n : ℕ). RowFitsAt a n ps' at v) (sym (row_word_same v))
      (record {
        number = fits.number;
        word = fits.word;
        low = fits.low;
        chained = fits.chained;
        listed = fits.listed;
        linked = λ b e. ((fits.linked b e).0, alike.owned_on at _ (fits.linked b e).1);
        busy = λ o has clean. fits.busy o (alike.owned_back at o has) clean;
      })

  owned_same : (o : Owned) → OwnedFits a ws o → OwnedFits a ws' o
  owned_same o fits =
      record {
        number = fits.number;
        key = quiet.host_words (key_place a o.entry) (le-add_right (place_after_seats a.config) _) ∙ fits.key;
        value = quiet.host_words (value_place a o.entry) (le-add_right (place_after_seats a.config) _) ∙ fits.value;
      }

  hold_same : (h : Hold) → HoldFits ws ps h → HoldFits ws' ps' h
  hold_same h fits =
      record {
        past = le_trans fits.past quiet.write_not_lower;
        kept = λ b e low.
            let k = fits.kept b e (le_trans quiet.read_not_lower low) in
            (k.0, k.1, alike.owned_on k.0 _ k.2, k.3);
      }

  record_same : (r : Record) → IsRecord a ws ps r → IsRecord a ws' ps' r
  record_same r is =
      record {
        at = is.at;
        row = is.row;
        there = alike.rows_on is.at is.row is.there;
        listed = subst (λ (n : ℕ). In r (records_of n is.row)) (sym (row_word_same is.row)) is.listed;
      }

  pub same_held : ((at : ℕ) (h : Hold) → Has ps' at (HoldsIt h) → HoldFits ws ps h) → ((at : ℕ) (r : Record) → Has ps' at (KnowsIt r) → IsRecord a ws ps r) → Held a ws' ps'
  same_held holds knows =
      record {
        planned = held.planned;
        room = subst (λ (n : ℕ). key_place a a.plan.1 ≤ n) (sym quiet.as_many) held.room;
        rows = λ at v has. row_same at v (held.rows at v (alike.rows_back at v has));
        one_row = λ at other v w p q e. held.one_row at other v w (alike.rows_back at v p) (alike.rows_back other w q) e;
        all_rows = λ n h. let k = held.all_rows n h in (k.0, k.1, alike.rows_on k.0 k.1 k.2, k.3);
        owners = λ at o has. owned_same o (held.owners at o (alike.owned_back at o has));
        one_owner = λ at other o x p q e. held.one_owner at other o x (alike.owned_back at o p) (alike.owned_back other x q) e;
        all_owned = λ n h. let k = held.all_owned n h in (k.0, k.1, alike.owned_on k.0 k.1 k.2, k.3);
        holds = λ at h has. hold_same h (holds at h has);
        knows = λ at r has. record_same r (knows at r has);
      }

-- ---- the laws of a host

pub names_include : Includes Named
names_include a ws vs named = named.clock

-- the same parts
same_parts : (ps : List Part) → Alike ps ps
same_parts ps = record { rows_back = λ at v has. has; rows_on = λ at v has. has; owned_back = λ at o has. has; owned_on = λ at o has. has }

pub names_frame : FrameLaw Named
names_frame a ws vs ws' vs' named moved seats hosts =
    record {
      clock = moved.after;
      names = subst (λ (ps : List Part). Held a ws' ps) (sym hosts)
          (same_held a ws ws' (hosts_of vs) (hosts_of vs) named.names
          (record { write_not_lower = moved.write_not_lower; read_not_lower = moved.read_not_lower; as_many = moved.as_many; host_words = moved.host_words })
          (same_parts (hosts_of vs)) named.names.holds named.names.knows);
    }

-- a seat more, which was told what the other knows
module _ (ps : List Part) (id : ℕ) (p : Part) (there : get_elem? ps id ≡ some p) where
  told_alike : Alike ps (ps ++ told p ∷ [])
  told_alike =
      record {
        rows_back = λ at v has. ⊎_elim (λ t. t) (λ t. absurd t.1) (has_push (IsRow v) ps at (told p) has);
        rows_on = λ at v has. has_longer (IsRow v) ps (told p ∷ []) at has;
        owned_back = λ at o has. ⊎_elim (λ t. t) (λ t. absurd t.1) (has_push (OwnsIt o) ps at (told p) has);
        owned_on = λ at o has. has_longer (OwnsIt o) ps (told p ∷ []) at has;
      }

  told_holds : (at : ℕ) (h : Hold) → Has (ps ++ told p ∷ []) at (HoldsIt h) → Has ps at (HoldsIt h)
  told_holds at h has = ⊎_elim (λ t. t) (λ t. absurd (none_is_some h t.1)) (has_push (HoldsIt h) ps at (told p) has)

  told_knows : (at : ℕ) (r : Record) → Has (ps ++ told p ∷ []) at (KnowsIt r) → (other : ℕ) × Has ps other (KnowsIt r)
  told_knows at r has = ⊎_elim (λ t. (at, t)) (λ t. (id, (p, there, t.1))) (has_push (KnowsIt r) ps at (told p) has)

pub names_split : SplitLaw Named told
names_split a ws vs ws' vs' id v seat named moved there seats hosts =
    record {
      clock = moved.after;
      names = subst (λ (ps : List Part). Held a ws' ps) (sym hosts)
          (same_held a ws ws' (hosts_of vs) (hosts_of vs ++ told v.host ∷ []) named.names
          (record { write_not_lower = moved.write_not_lower; read_not_lower = moved.read_not_lower; as_many = moved.as_many; host_words = moved.host_words })
          (told_alike (hosts_of vs) id v.host at_host)
          (λ at h has. named.names.holds at h (told_holds (hosts_of vs) id v.host at_host at h has))
          (λ at r has. let k = told_knows (hosts_of vs) id v.host at_host at r has in named.names.knows k.0 r k.1));
    }
  where
    at_host : get_elem? (hosts_of vs) id ≡ some v.host
    at_host = at_map (λ (x : View Part). x.host) vs id v there

false_is_true : false ≡ true → ⊥
false_is_true e = subst IsFalse e tt
  where
    IsFalse : Bool → Type 0
    IsFalse true = ⊥
    IsFalse false = Unit {0}

pub has_nothing : (rows : List RowView) (owned : List Owned) → IsTrue (owns_nothing rows owned) → (rows ≡ []) × (owned ≡ [])
has_nothing [] [] t = (refl, refl)
has_nothing [] (o ∷ os) t = absurd (false_is_true t)
has_nothing (v ∷ vs) os t = absurd (false_is_true t)

-- a seat takes in a note
module _ (ps : List Part) (id at : ℕ) (p q : Part) (here : get_elem? ps id ≡ some p) (there : get_elem? ps at ≡ some q) (apart : at ≡ id → ⊥) (may : IsTrue (may_note q)) where
  nothing : (q.rows ≡ []) × (q.owned ≡ [])
  nothing = has_nothing q.rows q.owned may

  -- what is so of a seat after it, and not of the blank part, was so before, but for what it learned
  back : (F : Part → Type 0) (else : ℕ) → (F blank_part → ⊥) → (F (learned p q) → F p) → Has (set (set ps id (learned p q)) at blank_part) else F → Has ps else F
  back F else none same has =
      ⊎_elim
      (λ t. absurd (none t.1))
      (λ t. ⊎_elim (λ u. (p, ap (λ (n : ℕ). get_elem? ps n) u.0 ∙ here, same u.1)) (λ u. u.1) (has_set F ps id else (learned p q) t.1))
      (has_set F (set ps id (learned p q)) at else blank_part has)

  -- what is so of a seat, and not of the note, stays so
  on : (F : Part → Type 0) (else : ℕ) → (F q → ⊥) → (F p → F (learned p q)) → Has ps else F → Has (set (set ps id (learned p q)) at blank_part) else F
  on F else none same has =
      has_kept F (set ps id (learned p q)) at else blank_part q (set_else ps id at (learned p q) apart ∙ there) (λ t. absurd (none t))
      (has_kept F ps id else (learned p q) p here same has)

  pub learned_alike : Alike ps (set (set ps id (learned p q)) at blank_part)
  learned_alike =
      record {
        rows_back = λ else v has. back (IsRow v) else (λ t. t) (λ t. t) has;
        rows_on = λ else v has. on (IsRow v) else (λ t. subst (λ (l : List RowView). In v l) nothing.0 t) (λ t. t) has;
        owned_back = λ else o has. back (OwnsIt o) else (λ t. t) (λ t. t) has;
        owned_on = λ else o has. on (OwnsIt o) else (λ t. subst (λ (l : List Owned). In o l) nothing.1 t) (λ t. t) has;
      }

  pub learned_holds : (else : ℕ) (h : Hold) → Has (set (set ps id (learned p q)) at blank_part) else (HoldsIt h) → Has ps else (HoldsIt h)
  learned_holds else h has = back (HoldsIt h) else (λ t. none_is_some h t) (λ t. t) has

  pub learned_knows : (else : ℕ) (r : Record) → Has (set (set ps id (learned p q)) at blank_part) else (KnowsIt r) → (other : ℕ) × Has ps other (KnowsIt r)
  learned_knows else r has =
      ⊎_elim
      (λ t. absurd t.1)
      (λ t.
      ⊎_elim
      (λ u. ⊎_elim (λ k. (id, (p, here, k))) (λ k. (at, (q, there, k))) (in_either p.known q.known r u.1))
      (λ u. (else, u.1))
      (has_set (KnowsIt r) ps id else (learned p q) t.1))
      (has_set (KnowsIt r) (set ps id (learned p q)) at else blank_part has)

pub names_join : JoinLaw Named may_note learned blank_part
names_join a ws vs ws' vs' id at v note named moved here there apart may seats hosts =
    record {
      clock = moved.after;
      names = subst (λ (ps : List Part). Held a ws' ps) (sym hosts)
          (same_held a ws ws' (hosts_of vs) (set (set (hosts_of vs) id (learned v.host note.host)) at blank_part) named.names
          (record { write_not_lower = moved.write_not_lower; read_not_lower = moved.read_not_lower; as_many = moved.as_many; host_words = moved.host_words })
          (learned_alike (hosts_of vs) id at v.host note.host p q apart may)
          (λ else h has. named.names.holds else h (learned_holds (hosts_of vs) id at v.host note.host p q apart may else h has))
          (λ else r has. let k = learned_knows (hosts_of vs) id at v.host note.host p q apart may else r has in named.names.knows k.0 r k.1));
    }
  where
    p : get_elem? (hosts_of vs) id ≡ some v.host
    p = at_map (λ (x : View Part). x.host) vs id v here

    q : get_elem? (hosts_of vs) at ≡ some note.host
    q = at_map (λ (x : View Part). x.host) vs at note there
