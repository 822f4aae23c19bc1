-- What a look's three loads come to.
use Rattle.std.proofs.Common.{◌≡◌, ℕ, ◌+◌, ◌*◌, ◌%◌, ◌^◌, ◌<◌, ◌≤◌, refl, sym, ap, ◌∙◌, subst, arith, Option, Some, None}
use Rattle.std.proofs.lemmas.Nat.{mod-mul-add}
use Rattle.smr_core.specs.declared.holder.Phase.TheVariants as phase
use Rattle.smr_clock.specs.declared.clock.Setup.{Setup}
use Rattle.smr_clock.specs.declared.view.View.{View}
use Rattle.smr_clock.specs.declared.host.HostAct.{HostAct}
use Rattle.smr_clock.specs.HostSteps.{HostStepped, with_host}
use Rattle.name_rows.specs.declared.names.Bound.{Bound}
use Rattle.name_rows.specs.declared.names.Part.{Part}
use Rattle.name_rows.specs.Records.{slot_of, row_place, key_place, value_place}
use Rattle.name_rows.specs.NamesLaw.{IsPlan}
use Rattle.name_rows.specs.Reading.{reads_row, reads_entry, Spells, ReadsRecord, HoldsOpen, slot_entry, entry_in, bound_to, Finds}

-- the slot of a word that spells a record with an entry of the plan
slot_is : (version : ℕ) (content : Option Bound) → slot_of content < 2 ^ 20 → (version * 2 ^ 20 + slot_of content) % 2 ^ 20 ≡ slot_of content
slot_is version content small = mod-mul-add version (2 ^ 20) (slot_of content) small

slot_names : (content : Option Bound) → slot_entry (slot_of content) ≡ entry_in content
slot_names None = refl
slot_names (Some b) = names b.entry
  where
    names : (n : ℕ) → slot_entry (n + 1) ≡ Some n
    names n = grind arith

small_slot : (content : Option Bound) (entries : ℕ) → entries ≤ 65536 → ((b : Bound) → content ≡ Some b → b.entry < entries) → slot_of content < 2 ^ 20
small_slot None entries few below = omega arith
small_slot (Some b) entries few below = let h = below b refl in omega arith

pub row_read : (v : View Part) (row place word : ℕ) (act : HostAct) (entry : Option ℕ) (v' : View Part) → IsPlan v.setup.plan.0 v.setup.plan.1 → place ≡ row_place v.setup row
    → HostStepped v place act reads_row word v' → entry ≡ slot_entry (word % 2 ^ 20) → ReadsRecord v row entry v'
row_read v row place word act entry v' plan at stepped is =
    let part = stepped.0 in
    let change = stepped.1 in
    let last = change.1 in
    let same : change.0 ≡ row = let e = change.2 in omega arith in
    let spells : Spells v.setup row word v.host.known last = subst (λ (n : ℕ). Spells v.setup n word v.host.known last) same change.3 in
    let few = plan.few_entries in
    let slot : word % 2 ^ 20 ≡ slot_of last.content =
    ap (λ (n : ℕ). n % 2 ^ 20) spells.word ∙ slot_is last.version last.content (small_slot last.content v.setup.plan.1 few (λ b e. (spells.bound b e).0)) in
    record {
      last = last;
      of_row = spells.of_row;
      newest = spells.newest;
      bound = spells.bound;
      names = is ∙ ap slot_entry slot ∙ slot_names last.content;
      after = stepped.2 ∙ ap (λ (p : Part). with_host v p) change.4;
    }

pub entry_read : (v : View Part) (place word : ℕ) (act : HostAct) (v' : View Part) → HostStepped v place act reads_entry word v' → v' ≡ v
entry_read v place word act v' stepped = stepped.2 ∙ ap (λ (p : Part). with_host v p) stepped.1.0

pub key_read : (v : View Part) (entry place word : ℕ) (act : HostAct) (v' : View Part) → place ≡ key_place v.setup entry → HostStepped v place act reads_entry word v'
    → (b : Bound) → HoldsOpen v b → b.entry ≡ entry → word ≡ b.key
key_read v entry place word act v' at stepped b there same =
    (stepped.1.1 there.hold b there.holds there.content there.inside there.mark).0 (at ∙ ap (λ (n : ℕ). key_place v.setup n) (sym same))

pub value_read : (v : View Part) (entry place word : ℕ) (act : HostAct) (v' : View Part) → place ≡ value_place v.setup entry → HostStepped v place act reads_entry word v'
    → (b : Bound) → HoldsOpen v b → b.entry ≡ entry → word ≡ b.value
value_read v entry place word act v' at stepped b there same =
    (stepped.1.1 there.hold b there.holds there.content there.inside there.mark).1 (at ∙ ap (λ (n : ℕ). value_place v.setup n) (sym same))

-- the content that names an entry
content_names : (content : Option Bound) (entry : ℕ) → Some entry ≡ entry_in content → (b : Bound) × (content ≡ Some b) × (b.entry ≡ entry)
content_names None entry e = absurd (cc)
content_names (Some b) entry e = (b, refl, let f : Some entry ≡ Some b.entry = e in cc)

content_none : (content : Option Bound) → None ≡ entry_in content → content ≡ None
content_none None e = refl
content_none (Some b) e = absurd (let f : None ≡ Some b.entry = e in cc)

module _ (v v1 : View Part) (key row : ℕ) (row_is : row ≡ key % v.setup.plan.0) where
  pub finds_none : ReadsRecord v row None v1 → Finds v v1 key None
  finds_none reads =
      record {
        last = reads.last;
        of_row = reads.of_row ∙ row_is;
        newest = reads.newest;
        result = sym (ap (bound_to key) (content_none reads.last.content reads.names));
        after = reads.after;
      }

  module _ (entry : ℕ) (inside : v.holder.phase ≡ phase.Inside) (reads : ReadsRecord v row (Some entry) v1) where
    content_here : (b : Bound) × (reads.last.content ≡ Some b) × (b.entry ≡ entry)
    content_here = content_names reads.last.content entry reads.names

    pub entry_below : (a : Setup) → v.setup ≡ a → entry < a.plan.1
    entry_below a own = subst (λ (s : Setup). entry < s.plan.1) own (let k = content_here in let h = (reads.bound k.0 k.1).0 in let e = k.2 in omega arith)

    holds_open : (b : Bound) → reads.last.content ≡ Some b → HoldsOpen v1 b
    holds_open b content =
        subst (λ (w : View Part). HoldsOpen w b) (sym reads.after)
        (record { hold = record { loaded = reads.last; mark = v.holder.mark }; holds = refl; content = content; inside = inside; mark = refl })

    finds_as : (v' : View Part) (answer : Option ℕ) (b : Bound) → reads.last.content ≡ Some b → v' ≡ v1 → answer ≡ bound_to key (Some b) → Finds v v' key answer
    finds_as v' answer b content same is =
        record {
          last = reads.last;
          of_row = reads.of_row ∙ row_is;
          newest = reads.newest;
          result = is ∙ sym (ap (bound_to key) content);
          after = same ∙ reads.after;
        }

    pub finds_other : (v' : View Part) (found : ℕ) → v' ≡ v1 → ((b : Bound) → HoldsOpen v1 b → b.entry ≡ entry → found ≡ b.key) → (found ≡ key → ⊥) → Finds v v' key None
    finds_other v' found same held other =
        let k = content_here in
        let e = held k.0 (holds_open k.0 k.1) k.2 in
        finds_as v' None k.0 k.1 same (not_bound k.0 (λ f. other (e ∙ f)))
      where
        not_bound : (b : Bound) → (b.key ≡ key → ⊥) → None ≡ bound_to key (Some b)
        not_bound b n = grind arith

    pub finds_it : (v2 v' : View Part) (found value : ℕ) → v2 ≡ v1 → v' ≡ v2 → ((b : Bound) → HoldsOpen v1 b → b.entry ≡ entry → found ≡ b.key) → found ≡ key
        → ((b : Bound) → HoldsOpen v2 b → b.entry ≡ entry → value ≡ b.value) → Finds v v' key (Some value)
    finds_it v2 v' found value same again held is reads_value =
        let k = content_here in
        let now = holds_open k.0 k.1 in
        finds_as v' (Some value) k.0 k.1 (again ∙ same)
        (bound k.0 value (sym (held k.0 now k.2) ∙ is) (reads_value k.0 (subst (λ (w : View Part). HoldsOpen w k.0) (sym same) now) k.2))
      where
        bound : (b : Bound) (n : ℕ) → b.key ≡ key → n ≡ b.value → Some n ≡ bound_to key (Some b)
        bound b n e f = grind arith
