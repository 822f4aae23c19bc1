-- What a pass knows of the rows of names after the calls of a cache, as the lines of names need it.
use Rattle.std.proofs.Common.{◌≡◌, ◌∷◌, List, ℕ, ◌<◌, ◌≤◌, ◌+◌, Option, None, Some, Result, Ok, Err, refl, sym, ap, subst, ◌∙◌, inl, inr, arith}
use Rattle.std.specs.Prelude.{◌%◌, Bool, IfErr, IfNone, IfOk, IfSome, is_some}
use Rattle.smr_core.specs.declared.holder.Holder.{Holder}
use Rattle.smr_clock.specs.declared.view.View.{View}
use Rattle.smr_clock.specs.declared.polls.Overtaken.{Overtaken}
use Rattle.smr_clock.specs.Sections.{Misses}
use Rattle.name_rows.specs.declared.names.Part.{Part}
use Rattle.name_rows.specs.declared.names.Bound.{Bound}
use Rattle.name_rows.specs.declared.names.Record.{Record}
use Rattle.name_rows.specs.Records.{In, pair_of}
use Rattle.name_rows.specs.Reading as reading
use Rattle.name_cache.specs.declared.binding.Receipt.{Receipt}
use Rattle.name_cache.specs.Bind as cache_bind
use Rattle.name_cache.specs.Known as cache
use Rattle.name_cache.specs.Known.{known_in}
use Rattle.name_cache.specs.Look.{Looks}
use Rattle.name_cache.specs.Types.{ZoneOfEntries, EntrySeat}
use Rattle.name_cache.specs.Unbind as cache_unbind
use Rattle.replay_worker.specs.NameCalls.{Unbound}
use Rattle.replay_worker.specs.Knowing.{StillKnows, IsAbove, IsNewest, Binds, Unbinds, FindsUnbound, Finds, Loads, Told, bound_to}
use Rattle.umarun.specs.Known.{KnowsRecord, told_by, told_in}

pub still_known : (v v' : View Part) → cache.StillKnows v v' → StillKnows KnowsRecord v v'
still_known v v' still row version bound k = record { at = k.at; knows = still k.at k.knows; of_row = k.of_row; numbered = k.numbered; binds = k.binds }

-- who has the same host part knows the same
same_known : (v v' : View Part) → v.host ≡ v'.host → cache.StillKnows v v'
same_known v v' same r has = subst (λ (p : Part). In r p.known) same has

above_all : (row version : ℕ) (v : View Part) → cache.IsAbove row version v → IsAbove KnowsRecord row version v
above_all row version v above older bound k = subst (λ (n : ℕ). n < version) k.numbered (above k.at k.knows k.of_row)

newest_all : (v : View Part) (last : Record) → reading.IsNewest (known_in v) last → IsNewest KnowsRecord last.row last.version v
newest_all v last newest other bound k = subst (λ (n : ℕ). n ≤ last.version) k.numbered (newest k.at k.knows k.of_row)

newest_at : (row version : ℕ) (v : View Part) (last : Record) → reading.IsNewest (known_in v) last → last.row ≡ row → last.version ≡ version → IsNewest KnowsRecord row version v
newest_at row version v last newest of_row numbered =
    subst (λ (at : ℕ). IsNewest KnowsRecord at version v) of_row
    (subst (λ (n : ℕ). IsNewest KnowsRecord last.row n v) numbered (newest_all v last newest))

same_binding : (key : ℕ) (content : Option Bound) → reading.bound_to key content ≡ bound_to key (pair_of content)
same_binding key None = refl
same_binding key (Some b) = refl

module _ (rows key : ℕ) (v v' : View Part) where
  pub binds_of : (zone : ZoneOfEntries) (value : ℕ) (old new : EntrySeat) (receipt : Receipt) → cache_bind.Binds zone rows key value v old receipt v' new → cache.IsAbove receipt.row receipt.version v → Binds KnowsRecord rows key value v v'
  binds_of zone value old new receipt b above =
      let at = b.knows.at in
      let of_row = b.knows.of_row ∙ b.row in
      record {
        version = receipt.version;
        above = above_all (key % rows) receipt.version v (subst (λ (row : ℕ). cache.IsAbove row receipt.version v) b.row above);
        knows = record { at = at; knows = b.knows.knows; of_row = of_row; numbered = b.knows.version; binds = ap pair_of b.knows.binds };
        newest = newest_at (key % rows) receipt.version v' at b.knows.newest of_row b.knows.version;
      }

  pub unbinds_of : (value : ℕ) (old new : EntrySeat) (receipt : Receipt) → cache_unbind.Unbinds rows key value v old receipt v' new → Unbinds KnowsRecord rows key v v'
  unbinds_of value old new receipt u =
      let at = u.knows.at in
      let of_row = u.knows.of_row ∙ u.row in
      let met_row = u.met.of_row ∙ u.row in
      let numbered = u.knows.version ∙ u.next in
      record {
        before = u.before.version;
        value = value;
        bound = record { at = u.before; knows = u.met.knows; of_row = met_row; numbered = refl; binds = ap pair_of u.content ∙ (λ i. Some (u.key_bound i, u.value_bound i)) };
        met = newest_at (key % rows) u.before.version v u.before u.met.newest met_row refl;
        knows = record { at = at; knows = u.knows.knows; of_row = of_row; numbered = numbered; binds = ap pair_of u.knows.empty };
        newest = newest_at (key % rows) (u.before.version + 1) v' at u.knows.newest of_row numbered;
      }

  pub unbound_of : (old new : EntrySeat) → cache_unbind.FindsUnbound rows key v old v' new → FindsUnbound KnowsRecord rows key v v'
  unbound_of old new f = record {
    version = f.last.version;
    content = pair_of f.last.content;
    knows = record { at = f.last; knows = f.met.knows; of_row = f.met.of_row; numbered = refl; binds = refl };
    met = newest_at (key % rows) f.last.version v f.last f.met.newest f.met.of_row refl;
    newest = newest_at (key % rows) f.last.version v' f.last f.newest f.met.of_row refl;
    unbound = sym (same_binding key f.last.content) ∙ f.unbound;
  }

pub same_seen : (v v' : View Part) → v'.holder ≡ v.holder → v.holder.seen ≤ v'.holder.seen
same_seen v v' same = let is = ap (λ (h : Holder). h.seen) same in omega (arith, is)

-- an unbind that answers by whether it found the key
pub unbind_ends : (rows key : ℕ) (v v' : View Part) (old new : EntrySeat) (found : Option (ℕ × Receipt)) (done : Bool) → done ≡ is_some found
    → IfSome found (λ (p : ℕ × Receipt). cache_unbind.Unbinds rows key p.0 v old p.1 v' new) → IfNone found (cache_unbind.FindsUnbound rows key v old v' new) → Unbound KnowsRecord rows key v done v'
unbind_ends rows key v v' old new (Some p) done is some none = subst (λ (b : Bool). Unbound KnowsRecord rows key v b v') (sym is) (unbinds_of rows key v v' p.0 old new p.1 some)
unbind_ends rows key v v' old new None done is some none = subst (λ (b : Bool). Unbound KnowsRecord rows key v b v') (sym is) (unbound_of rows key v v' old new none)

module _ (key : ℕ) (v v' : View Part) (found : Option ℕ) (f : reading.Finds v v' key found) where
  -- the clock's part is as it was
  pub find_holder : v'.holder ≡ v.holder
  find_holder = ap (λ (w : View Part). w.holder) f.after

  pub find_keeps : cache.StillKnows v v'
  find_keeps r has = subst (λ (w : View Part). In r (known_in w)) (sym f.after) (inr has)

  pub finds_of : (rows : ℕ) → v.setup.plan.0 ≡ rows → Finds KnowsRecord rows key v found v'
  finds_of rows plan =
      let of_row = f.of_row ∙ ap (λ (n : ℕ). key % n) plan in
      record {
        version = f.last.version;
        content = pair_of f.last.content;
        knows = record { at = f.last; knows = subst (λ (w : View Part). In f.last (known_in w)) (sym f.after) (inl refl); of_row = of_row; numbered = refl; binds = refl };
        met = newest_at (key % rows) f.last.version v f.last f.newest of_row refl;
        answer = f.result ∙ same_binding key f.last.content;
      }

  pub loads_of : (rows : ℕ) → v.setup.plan.0 ≡ rows → Loads KnowsRecord told_in rows key v found v'
  loads_of rows plan =
      let of_row = f.of_row ∙ ap (λ (n : ℕ). key % n) plan in
      let All : ℕ → List Told = λ row. (row, f.last.version, pair_of f.last.content) ∷ told_in v in
      record {
        version = f.last.version;
        content = pair_of f.last.content;
        met = newest_at (key % rows) f.last.version v f.last f.newest of_row refl;
        loaded = ap told_in f.after ∙ ap All of_row;
        answer = f.result ∙ same_binding key f.last.content;
      }

-- ---- a look in a section of its own

module _ (key : ℕ) (v v' : View Part) (found : Option ℕ) (l : Looks key v found v') where
  entered : v.host ≡ l.inside.host
  entered = ap (λ (w : View Part). w.host) (sym l.enters.third.after)

  left : l.looked.host ≡ v'.host
  left = ap (λ (w : View Part). w.host) (sym l.left)

  pub look_keeps : cache.StillKnows v v'
  look_keeps r has =
      same_known l.looked v' left r
      (find_keeps key l.inside l.looked found l.finds r
      (same_known v l.inside entered r has))

  pub looks_of : (rows : ℕ) → v.setup.plan.0 ≡ rows → Finds KnowsRecord rows key v found v'
  looks_of rows plan =
      let f = finds_of key l.inside l.looked found l.finds rows (ap (λ (w : View Part). w.setup.plan.0) l.enters.third.after ∙ plan) in
      record {
        version = f.version;
        content = f.content;
        knows = still_known l.looked v' (same_known l.looked v' left) (key % rows) f.version f.content f.knows;
        met = λ other bound k. f.met other bound (still_known v l.inside (same_known v l.inside entered) (key % rows) other bound k);
        answer = f.answer;
      }

  pub look_loads : (rows : ℕ) → v.setup.plan.0 ≡ rows → Loads KnowsRecord told_in rows key v found v'
  look_loads rows plan =
      let f = loads_of key l.inside l.looked found l.finds rows (ap (λ (w : View Part). w.setup.plan.0) l.enters.third.after ∙ plan) in
      let All : Part → List Told = λ part. (key % rows, f.version, f.content) ∷ told_by part in
      record {
        version = f.version;
        content = f.content;
        met = λ other bound k. f.met other bound (still_known v l.inside (same_known v l.inside entered) (key % rows) other bound k);
        loaded = ap told_by (sym left) ∙ (f.loaded ∙ ap All (sym entered));
        answer = f.answer;
      }

pub miss_keeps : (v v' : View Part) (late : Overtaken) → Misses v late v' → cache.StillKnows v v'
miss_keeps v v' late m = same_known v v' (ap (λ (w : View Part). w.host) (sym m.third.after))

pub look_ends : (key : ℕ) (v v' : View Part) (ended : Result (Option ℕ) Overtaken) → IfOk ended (λ found. Looks key v found v') → IfErr ended (λ late. Misses v late v') → cache.StillKnows v v'
look_ends key v v' (Ok found) looked late = look_keeps key v v' found looked
look_ends key v v' (Err overtaken) looked late = miss_keeps v v' overtaken late
