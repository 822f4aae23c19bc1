-- What the calls on a row come to: its view before and after.
use Rattle.std.proofs.Common.{◌≡◌, ℕ, ◌+◌, ◌<◌, ◌≤◌, arith, List, [], ◌∷◌, ◌++◌, map, refl, sym, ap, ◌∙◌, subst, Option, Some, None}
use Rattle.smr_clock.specs.declared.clock.Setup.{Setup}
use Rattle.smr_clock.specs.declared.view.View.{View}
use Rattle.smr_clock.specs.Steps.{joined_view}
use Rattle.smr_clock.specs.HostSteps.{HostSplits, with_host}
use Rattle.name_rows.specs.declared.names.Bound.{Bound}
use Rattle.name_rows.specs.declared.names.Record.{Record}
use Rattle.name_rows.specs.declared.names.RowView.{RowView}
use Rattle.name_rows.specs.declared.entry.EntryState.{EntryState}
use Rattle.name_rows.specs.declared.entry.EntryState.TheVariants.{Written, Linked, Unlinked}
use Rattle.name_rows.specs.declared.entry.Owned.{Owned}
use Rattle.name_rows.specs.declared.names.Part.{Part}
use Rattle.name_rows.specs.Records.{owned_as}
use Rattle.name_rows.specs.Linking.{bound_by, written_in, relinked, restated, goes_on, linking, first_seen, last_seen, linked_in, last_told, row_record}
use Rattle.name_rows.specs.Moving.{taken, linked_rest, unlinked_entry}
use Rattle.smr_clock.specs.declared.clock.Clock.{Clock}
use Rattle.smr_clock.specs.Belongs.{setup_of}
use Rattle.smr_clock.specs.Notes.{IsSeatOf}
use Rattle.name_rows.specs.declared.names.Names.{Names}
use Rattle.name_rows.specs.declared.words.Words.{Words}
use Rattle.name_rows.specs.Entries.{AreWordsOf, state_in}
use Rattle.name_rows.proofs.Loads.{some_same}
use Rattle.name_rows.proofs.RowSteps.{row_of}

-- the seat's one row has records, and this is so of its last
pub seen_form : (rows : List RowView) (n version : ℕ) (content : Option Bound) → last_seen rows ≡ Some (n, version, content)
    → (r : Record) × (rest : List Record) × (rows ≡ row_of n r rest ∷ []) × (r.version ≡ version) × (r.content ≡ content)
seen_form [] n version content e = absurd (let f : None ≡ Some (n, version, content) = e in cc)
seen_form (v ∷ []) n version content e = first v v.records refl e
  where
    first : (v : RowView) (records : List Record) → v.records ≡ records → first_seen v.number records ≡ Some (n, version, content)
        → (r : Record) × (rest : List Record) × ((v ∷ []) ≡ row_of n r rest ∷ []) × (r.version ≡ version) × (r.content ≡ content)
    first v [] own e = absurd (let f : None ≡ Some (n, version, content) = e in cc)
    first v (r ∷ rest) own e =
        let f : Some (v.number, r.version, r.content) ≡ Some (n, version, content) = e in
        let p : (v.number, r.version, r.content) ≡ (n, version, content) = some_same _ _ f in
        (r, rest, (λ k. record { number = (ap (λ (t : ℕ × ℕ × Option Bound). t.0) p) k; records = own k } ∷ []), ap (λ (t : ℕ × ℕ × Option Bound). t.1) p, ap (λ (t : ℕ × ℕ × Option Bound). t.2) p)
seen_form (v ∷ w ∷ more) n version content e = absurd (let f : None ≡ Some (n, version, content) = e in cc)

-- the row after its store
module _ (p : Part) (n version : ℕ) (content : Option Bound) (seen : last_seen p.rows ≡ Some (n, version, content)) (f : ℕ → ℕ → EntryState → EntryState) (found : ℕ) (next : Option Bound) where
  pub next_seen : last_seen (goes_on f found next p p.rows).rows ≡ Some (n, version + 1, next)
  next_seen =
      let k = seen_form p.rows n version content seen in
      ap (λ (l : List RowView). last_seen (goes_on f found next p l).rows) k.2 ∙ ap (λ (m : ℕ). Some (n, m + 1, next)) k.3

  pub next_owned : (goes_on f found next p p.rows).owned ≡ map (restated (f n (version + 1))) p.owned
  next_owned =
      let k = seen_form p.rows n version content seen in
      ap (λ (l : List RowView). (goes_on f found next p l).owned) k.2 ∙ ap (λ (m : ℕ). map (restated (f n (m + 1))) p.owned) k.3

-- what an unlinking comes to: the row's seat, and that of the entry
pub record Unlinking (v v' other : View Part) (n version : ℕ) (b : Bound) : Type 0 where
  pub seen : last_seen v'.host.rows ≡ Some (n, version + 1, None)
  pub told : last_told v'.host.rows ≡ row_record n (version + 1) None (Some (b.key, b.value)) ∷ []
  pub owned : v'.host.owned ≡ []
  pub setup : v'.setup ≡ v.setup
  pub no_rows : other.host.rows ≡ []
  pub owns : other.host.owned ≡ owned_as b Unlinked ∷ []

-- ---- a link

module _ (v w x : View Part) (n version : ℕ) (content : Option Bound) (o : Owned) (seen : last_seen v.host.rows ≡ Some (n, version, content)) (owned : v.host.owned ≡ linked_in n version content)
    (no_rows : w.host.rows ≡ []) (owns : w.host.owned ≡ o ∷ []) (written : o.state ≡ Written) (joined : x ≡ joined_view taken v w) where
  pub joined_rows : x.host.rows ≡ v.host.rows
  joined_rows = ap (λ (y : View Part). y.host.rows) joined ∙ ap (λ (l : List RowView). l ++ v.host.rows) no_rows

  pub joined_seen : last_seen x.host.rows ≡ Some (n, version, content)
  joined_seen = ap last_seen joined_rows ∙ seen

  pub joined_owned : x.host.owned ≡ o ∷ linked_in n version content
  joined_owned = ap (λ (y : View Part). y.host.owned) joined ∙ ap (λ (l : List Owned). l ++ v.host.owned) owns ∙ ap (λ (l : List Owned). o ∷ l) owned

  is_written : o ≡ owned_as (bound_by o) Written
  is_written = λ k. record { entry = o.entry; key = o.key; value = o.value; state = written k }

  pub written_one : written_in x.host.owned ≡ Some (bound_by o)
  written_one = ap written_in joined_owned ∙ ap (λ (y : Owned). written_in (y ∷ linked_in n version content)) is_written

  module _ (y : View Part) (step : (found : ℕ) × (y ≡ with_host x (linking found x.host))) where
    pub linked_seen : last_seen y.host.rows ≡ Some (n, version + 1, Some (bound_by o))
    linked_seen =
        ap (λ (z : View Part). last_seen z.host.rows) step.1 ∙ next_seen x.host n version content joined_seen relinked step.0 (written_in x.host.owned)
        ∙ ap (λ (c : Option Bound). Some (n, version + 1, c)) written_one

    linked_owned : y.host.owned ≡ map (restated (relinked n (version + 1))) (owned_as (bound_by o) Written ∷ linked_in n version content)
    linked_owned =
        ap (λ (z : View Part). z.host.owned) step.1 ∙ next_owned x.host n version content joined_seen relinked step.0 (written_in x.host.owned)
        ∙ ap (λ (l : List Owned). map (restated (relinked n (version + 1))) l) (joined_owned ∙ ap (λ (q : Owned). q ∷ linked_in n version content) is_written)

    -- no entry was there
    pub linked_alone : content ≡ None → y.host.owned ≡ linked_in n (version + 1) (Some (bound_by o))
    linked_alone none = linked_owned ∙ ap (λ (c : Option Bound). map (restated (relinked n (version + 1))) (owned_as (bound_by o) Written ∷ linked_in n version c)) none

    -- the entry b was there
    pub linked_both : (b : Bound) → content ≡ Some b → y.host.owned ≡ owned_as (bound_by o) (Linked n (version + 1)) ∷ owned_as b Unlinked ∷ []
    linked_both b there = linked_owned ∙ ap (λ (c : Option Bound). map (restated (relinked n (version + 1))) (owned_as (bound_by o) Written ∷ linked_in n version c)) there

    module _ (b : Bound) (there : content ≡ Some b) (v' other : View Part) (split : HostSplits linked_rest unlinked_entry y v' other) where
      pub rest_seen : last_seen v'.host.rows ≡ Some (n, version + 1, Some (bound_by o))
      rest_seen = ap (λ (z : View Part). last_seen z.host.rows) split.after ∙ linked_seen

      pub rest_owned : v'.host.owned ≡ linked_in n (version + 1) (Some (bound_by o))
      rest_owned = ap (λ (z : View Part). z.host.owned) split.after ∙ ap (λ (l : List Owned). (linked_rest (record y.host { owned = l })).owned) (linked_both b there)

      pub out_owns : other.host.owned ≡ owned_as b Unlinked ∷ []
      out_owns = ap (λ (z : View Part). z.host.owned) split.split ∙ ap (λ (l : List Owned). (unlinked_entry (record y.host { owned = l })).owned) (linked_both b there)

-- ---- words that an entry has

pub words_below : (clock : Clock Names Part) (given : Option Words) (w : Words) → given ≡ Some w → AreWordsOf clock given → w.kept.entry < (setup_of clock).plan.1
words_below clock given w is here =
    let own : IsSeatOf clock w.seat = subst (λ (o : Option Words). AreWordsOf clock o) is here in
    subst (λ (s : Setup). w.kept.entry < s.plan.1) own.1 w.below

pub words_written : (given : Option Words) (w : Words) → given ≡ Some w → state_in given ≡ Some Written → w.kept.state ≡ Written
words_written given w is e =
    let f : Some w.kept.state ≡ Some Written = ap state_in (sym is) ∙ e in
    some_same _ _ f

pub row_below : (s t : Setup) (n : ℕ) → s ≡ t → n < t.plan.1 → n + 1 ≤ s.plan.1
row_below s t n e h = let same : s.plan.1 ≡ t.plan.1 = ap (λ (x : Setup). x.plan.1) e in omega arith
