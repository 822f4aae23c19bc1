-- A report of the zones of the zone lines, of which these plain facts are known, stands for these lines of its trace.
use Rattle.std.proofs.Common.{◌≡◌, ℕ, zero, suc, ◌+◌, ◌-◌, ◌*◌, ◌<◌, ◌≤◌, List, [], ◌∷◌, false, length, map, Option, None, Some, refl, sym, ap, ◌∙◌, subst, arith, reverse}
use Rattle.std.proofs.lemmas.Option.{same_Some, slice_get_within, get_or_from_slice_get}
use Rattle.std.specs.Prelude.{All, IfSome, IsSome, is_some, slice_get, slice_index_or, sum_by}
use Rattle.trace_text.specs.declared.trace.ZoneHead.{ZoneHead}
use Rattle.trace_text.specs.declared.trace.Trace.{Trace}
use Rattle.trace_text.specs.Limits.{last_slot}
use Rattle.trace_text.specs.Lines.{Line, lines_of}
use Rattle.trace_text.specs.Valid.{IsValid, sharer_count}
use Rattle.zone_stats.specs.declared.ledger.SeatLedger.{SeatLedger}
use Rattle.zone_stats.specs.declared.refusal.Refusal.{Refusal}
use Rattle.zone_stats.specs.declared.refusal.Refusal.TheVariants.{AtLimit, Reserved, Full, Init, Ctor}
use Rattle.zone_stats.specs.declared.report.HookLine.{HookLine}
use Rattle.zone_stats.specs.declared.report.KegLine.{KegLine}
use Rattle.zone_stats.specs.declared.report.Report.{Report}
use Rattle.zone_stats.specs.declared.report.ZoneLine.{ZoneLine}
use Rattle.zone_stats.specs.Ledger.{is_ctor}
use Rattle.zone_stats.specs.Line.{zone_line, total_allocs, total_frees, used_items}
use Rattle.uma_life.specs.Trail.{ShowsSame}
use Rattle.replay_worker.specs.LedgerStands.{LedgerStands, KeptFits}
use Rattle.replay_rounds.specs.Kegs.{per_slab, primaries, index_of, rights_after}
use Rattle.uma_replay.specs.Limits.{last_limit}
use Rattle.uma_replay.specs.Report.{ZoneLedgersFit, LedgerFits, FreesFit, IsLineOf, RefusalFits, ledgers_at, KegAddsUp, UsesAreBuilt, ClockLineFits, line_title, head_title}
use Rattle.uma_replay.proofs.Filled.{filled_slots}
use Rattle.uma_replay.proofs.KegSums.{HaveOuts, items, keg_sum}
use Rattle.uma_replay.proofs.OwnCounts.{requests_are, args_are, asked_some}
use Rattle.uma_replay.proofs.Primaries.{IsPrimaryAt, primary_is}
use Rattle.uma_replay.proofs.ZoneFrees.{IsCounted, frees_fit}

-- all lines of the trace, the last one first
abbrev pub all_lines : Trace → List Line
all_lines t = reverse (lines_of t.rounds)

-- ---- one ledger

by_refusal : (t : Trace) (n z : ℕ) (head : ZoneHead) (Names : Refusal → Type 0) (refusal : Refusal)
    → (is_ctor refusal ≡ false → Names refusal → RefusalFits t n z head refusal) → KeptFits Names n z (all_lines t) refusal → RefusalFits t n z head refusal
by_refusal t n z head Names (Ctor code) fit kept = (kept.0, asked_some t n z code kept.1)
by_refusal t n z head Names (AtLimit out limit) fit kept = fit refl kept
by_refusal t n z head Names (Reserved free reserve) fit kept = fit refl kept
by_refusal t n z head Names (Full slabs made) fit kept = fit refl kept
by_refusal t n z head Names (Init code) fit kept = fit refl kept

pub by_last : (t : Trace) (n z : ℕ) (head : ZoneHead) (o : Option Refusal) → ((r : Refusal) → o ≡ Some r → RefusalFits t n z head r) → IfSome o (RefusalFits t n z head)
by_last t n z head None each = tt
by_last t n z head (Some r) each = each r refl

swap_args : (fails turned args others : ℕ) → fails ≤ turned + args → args ≡ others → fails ≤ turned + others
swap_args fails turned args others most same = omega arith

swap_all : (args others fails : ℕ) → args ≤ fails → args ≡ others → others ≤ fails
swap_all args others fails most same = omega arith

-- what a ledger has to do with its worker's lines fits the trace, where what its refusals name of the zone does
pub ledger_fits : (t : Trace) (n z : ℕ) (head : ZoneHead) (l : SeatLedger) (Names : Refusal → Type 0) → z < length t.head.zones
    → ((r : Refusal) → l.last ≡ Some r → is_ctor r ≡ false → Names r → RefusalFits t n z head r) → LedgerStands Names n z (all_lines t) l → LedgerFits t n z head l
ledger_fits t n z head l Names below fit stands = record {
  requests = stands.requests ∙ requests_are t n z below;
  law = l.law;
  some_args = swap_args _ _ _ _ stands.some_args (args_are t n z);
  all_args = swap_all _ _ _ stands.all_args (args_are t n z);
  kept = by_last t n z head l.last (λ r is. by_refusal t n z head Names r (fit r is) (stands.kept r is));
}

-- ---- what is known at the end

-- A zone with its ledgers and its lines. So many of its items are live, are out of the keg, and are free in the keg, which a secondary zone leaves to its primary one.
pub record ZoneEnds (t : Trace) (report : Report) (size z : ℕ) (head : ZoneHead) (out keg_free : ℕ) : Type 0 where
  pub ledgers : List SeatLedger
  pub at_ledgers : slice_get report.ledgers z ≡ Some ledgers
  pub workers : length ledgers ≡ t.head.workers
  pub fits : (n : ℕ) (l : SeatLedger) → slice_get ledgers n ≡ Some l → LedgerFits t n z head l
  pub counted : (n : ℕ) (l : SeatLedger) → slice_get ledgers n ≡ Some l → IsCounted n z (all_lines t) l
  pub live : ℕ
  pub filled : live ≤ filled_slots t.head.workers size z (all_lines t)
  pub balance : live + total_frees ledgers ≡ total_allocs ledgers
  pub lent : live ≤ out
  pub secondary : IsSome head.parent → keg_free ≡ 0
  pub at_line : slice_get report.lines z ≡ Some (zone_line head.name head.size (last_limit (lines_of t.rounds) z head) ledgers out keg_free)
  pub hooks : HookLine
  pub at_hooks : slice_get report.hooks z ≡ Some hooks
  pub named : hooks.name ≡ head.name
  pub pairs : ShowsSame hooks.ctors (hooks.dtors + live + hooks.deferred)

-- A keg with its line: what is free in it, and what is out in each of its zones.
pub record KegEnds (t : Trace) (report : Report) (outs_of frees_of : ℕ → ℕ) (k p : ℕ) (head : ZoneHead) : Type 0 where
  pub line : KegLine
  pub at : slice_get report.kegs k ≡ Some line
  pub named : line.name ≡ head.name
  pub outs : List ℕ
  pub free : ℕ
  pub balanced : line.slabs * per_slab head ≡ free + sum_by (λ out. out) outs
  pub eight : length outs ≡ 8
  pub absent : All (λ zone. slice_index_or outs zone 0 ≡ 0) (rights_after (sharer_count t.head.zones p))
  pub own : frees_of p ≡ free
  pub own_out : outs_of p ≡ slice_index_or outs 0 0
  pub shared : (z : ℕ) (h : ZoneHead) → slice_get t.head.zones z ≡ Some h → h.parent ≡ Some p → outs_of z ≡ slice_index_or outs (index_of t.head.zones z h) 0

pub record Ends (t : Trace) (report : Report) (size : ℕ) (outs_of frees_of : ℕ → ℕ) : Type 0 where
  pub valid : IsValid t
  pub most : last_slot < size
  pub ledger_count : length report.ledgers ≡ length t.head.zones
  pub line_count : length report.lines ≡ length t.head.zones
  pub hook_count : length report.hooks ≡ length t.head.zones
  pub keg_count : length report.kegs ≡ length (primaries t.head.zones 0)
  pub zone : (z : ℕ) (head : ZoneHead) → slice_get t.head.zones z ≡ Some head → ZoneEnds t report size z head (outs_of z) (frees_of z)
  pub keg : (k p : ℕ) (head : ZoneHead) → slice_get (primaries t.head.zones 0) k ≡ Some (p, head) → KegEnds t report outs_of frees_of k p head
  pub detail : report.detail ≡ t.head.detail
  pub clock : ClockLineFits t t.head.clock report.clock

-- ---- on options and lists

pub if_some : {A : Type 0} (o : Option A) (P : A → Type 0) → ((a : A) → o ≡ Some a → P a) → IfSome o P
if_some None P each = tt
if_some (Some a) P each = each a refl

pub if_at : {A : Type 0} (o : Option A) (P : A → Type 0) (a : A) → o ≡ Some a → P a → IfSome o P
if_at o P a is holds = let Q : Option _ → Type 0 = λ o. IfSome o P in subst Q (sym is) holds

pub some_at : {A : Type 0} (xs : List A) (i : ℕ) → i < length xs → (x : A) × (slice_get xs i ≡ Some x)
some_at [] i below = absurd (omega arith)
some_at (x ∷ xs) zero below = (x, refl)
some_at (x ∷ xs) (suc i) below = some_at xs i (omega arith)

same_images : {X Y Z : Type 0} (f : X → Z) (g : Y → Z) (xs : List X) (ys : List Y) → length xs ≡ length ys
    → ((k : ℕ) (x : X) (y : Y) → slice_get xs k ≡ Some x → slice_get ys k ≡ Some y → f x ≡ g y) → map f xs ≡ map g ys
same_images f g [] [] size each = refl
same_images f g [] (y ∷ ys) size each = absurd (omega arith)
same_images f g (x ∷ xs) [] size each = absurd (omega arith)
same_images f g (x ∷ xs) (y ∷ ys) size each =
    let first : f x ≡ g y = each zero x y refl refl in
    let rest : map f xs ≡ map g ys = same_images f g xs ys (omega arith) (λ k. each (suc k)) in
    cc

pair_images : {X A Z : Type 0} (f : X → Z) (g : A → Z) (xs : List X) (ys : List (ℕ × A)) → length xs ≡ length ys
    → ((k : ℕ) (x : X) (p : ℕ) (a : A) → slice_get xs k ≡ Some x → slice_get ys k ≡ Some (p, a) → f x ≡ g a) → map f xs ≡ map (λ (p, a). g a) ys
pair_images f g [] [] size each = refl
pair_images f g [] (y ∷ ys) size each = absurd (omega arith)
pair_images f g (x ∷ xs) [] size each = absurd (omega arith)
pair_images f g (x ∷ xs) ((p, a) ∷ ys) size each =
    let first : f x ≡ g a = each zero x p a refl refl in
    let rest : map f xs ≡ map (λ (p, a). g a) ys = pair_images f g xs ys (omega arith) (λ k. each (suc k)) in
    cc

-- ---- a zone

used_live : (live allocs frees : ℕ) → live + frees ≡ allocs → allocs - frees ≡ live
used_live live allocs frees is = omega arith

all_items_of : (used live out keg_free : ℕ) → used ≡ live → live ≤ out → used + (keg_free + out - used) ≡ keg_free + out
all_items_of used live out keg_free is most = omega arith

line_items : (t : Trace) (report : Report) (size z : ℕ) (head : ZoneHead) (out keg_free : ℕ) (e : ZoneEnds t report size z head out keg_free)
    → items (zone_line head.name head.size (last_limit (lines_of t.rounds) z head) e.ledgers out keg_free) ≡ keg_free + out
line_items t report size z head out keg_free e =
    all_items_of (used_items e.ledgers) e.live out keg_free (used_live e.live (total_allocs e.ledgers) (total_frees e.ledgers) e.balance) e.lent

items_at : (t : Trace) (report : Report) (size z : ℕ) (head : ZoneHead) (out keg_free : ℕ) (e : ZoneEnds t report size z head out keg_free) (line : ZoneLine)
    → slice_get report.lines z ≡ Some line → items line ≡ keg_free + out
items_at t report size z head out keg_free e line at =
    ap items (same_Some line (zone_line head.name head.size (last_limit (lines_of t.rounds) z head) e.ledgers out keg_free) (sym at ∙ e.at_line)) ∙ line_items t report size z head out keg_free e

zone_uses : (t : Trace) (report : Report) (size z : ℕ) (head : ZoneHead) (out keg_free : ℕ) (e : ZoneEnds t report size z head out keg_free)
    → UsesAreBuilt (zone_line head.name head.size (last_limit (lines_of t.rounds) z head) e.ledgers out keg_free) e.hooks
zone_uses t report size z head out keg_free e =
    let used : used_items e.ledgers ≡ e.live = used_live e.live (total_allocs e.ledgers) (total_frees e.ledgers) e.balance in
    let P : ℕ → Type 0 = λ n. ShowsSame e.hooks.ctors (e.hooks.dtors + n + e.hooks.deferred) in
    subst P (sym used) e.pairs

ledgers_of : (t : Trace) (report : Report) (size z : ℕ) (head : ZoneHead) (out keg_free : ℕ) (e : ZoneEnds t report size z head out keg_free) → ledgers_at report z ≡ e.ledgers
ledgers_of t report size z head out keg_free e = get_or_from_slice_get report.ledgers z e.ledgers [] e.at_ledgers

ledgers_fit : (t : Trace) (report : Report) (size z : ℕ) (head : ZoneHead) (out keg_free : ℕ) → ZoneEnds t report size z head out keg_free → ZoneLedgersFit t z head (ledgers_at report z)
ledgers_fit t report size z head out keg_free e =
    let P : List SeatLedger → Type 0 = λ ls. ZoneLedgersFit t z head ls in
    subst P (sym (ledgers_of t report size z head out keg_free e)) (record {
      workers = e.workers;
      each = λ n. if_some (slice_get e.ledgers n) (LedgerFits t n z head) (λ l at. e.fits n l at);
    })

zone_frees : (t : Trace) (report : Report) (size z : ℕ) (head : ZoneHead) (out keg_free : ℕ) → IsValid t → last_slot < size
    → ZoneEnds t report size z head out keg_free → FreesFit t z (ledgers_at report z)
zone_frees t report size z head out keg_free valid most e =
    let P : List SeatLedger → Type 0 = λ ls. FreesFit t z ls in
    subst P (sym (ledgers_of t report size z head out keg_free e))
    (frees_fit t size z e.live e.ledgers valid most e.workers e.counted e.filled e.balance)

zone_line_of : (t : Trace) (report : Report) (size z : ℕ) (head : ZoneHead) (out keg_free : ℕ) → ZoneEnds t report size z head out keg_free
    → IfSome (slice_get report.lines z) (IsLineOf (last_limit (lines_of t.rounds) z head) head (ledgers_at report z))
zone_line_of t report size z head out keg_free e =
    let line = zone_line head.name head.size (last_limit (lines_of t.rounds) z head) e.ledgers out keg_free in
    let P : List SeatLedger → Type 0 = λ ls. IsLineOf (last_limit (lines_of t.rounds) z head) head ls line in
    if_at (slice_get report.lines z) (IsLineOf (last_limit (lines_of t.rounds) z head) head (ledgers_at report z)) line e.at_line
    (subst P (sym (ledgers_of t report size z head out keg_free e)) (out, keg_free, e.secondary, refl))

-- ---- a keg

below_other : (p a b : ℕ) → p < b → a ≡ b → p < a
below_other p a b below same = omega arith

both_add : (keg_free out free own : ℕ) → keg_free ≡ free → out ≡ own → keg_free + out ≡ free + own
both_add keg_free out free own e1 e2 = omega arith

second_add : (keg_free out own : ℕ) → keg_free ≡ 0 → out ≡ own → keg_free + out ≡ own
second_add keg_free out own e1 e2 = omega arith

keg_adds_up : (t : Trace) (report : Report) (size : ℕ) (outs_of frees_of : ℕ → ℕ) (k p : ℕ) (head : ZoneHead) → (e : Ends t report size outs_of frees_of)
    → IsPrimaryAt t.head.zones 0 p head → (keg : KegEnds t report outs_of frees_of k p head) → KegAddsUp t report (p, head) keg.line
keg_adds_up t report size outs_of frees_of k p head e primary keg =
    let heads = t.head.zones in
    let place : primary.k ≡ p = (let e : primary.k ≡ 0 + primary.k = omega arith in e) ∙ sym primary.place in
    let P : ℕ → Type 0 = λ i. slice_get heads i ≡ Some head in
    let at : slice_get heads p ≡ Some head = subst P place primary.at in
    let below : p < length heads = slice_get_within heads p head at in
    let found = some_at report.lines p (let size : length report.lines ≡ length heads = e.line_count in below_other _ _ _ below size) in
    let have : HaveOuts heads report.lines keg.outs keg.free p = record {
      own = λ h line at_h at_line.
          items_at t report size p h (outs_of p) (frees_of p) (e.zone p h at_h) line at_line ∙ both_add _ _ _ _ keg.own keg.own_out;
      shared = λ z h line at_h at_line parent.
          let none : frees_of z ≡ 0 = (e.zone z h at_h).secondary (ap is_some parent) in
          items_at t report size z h (outs_of z) (frees_of z) (e.zone z h at_h) line at_line ∙ second_add _ _ _ none (keg.shared z h at_h parent);
    } in
    keg_sum heads report.lines keg.outs keg.free p head found.0 e.line_count at primary.own found.1 keg.eight (e.valid.head.most_of_a_keg p below) keg.absent have ∙ sym keg.balanced

-- ---- the report

-- What `StandsFor` says, of the zones of the zone lines alone.
pub record StandsPlain (t : Trace) (first : Report) : Type 0 where
  pub line_count : length first.lines ≡ length t.head.zones
  pub ledger_count : length first.ledgers ≡ length t.head.zones
  pub hook_count : length first.hooks ≡ length t.head.zones
  pub keg_count : length first.kegs ≡ length (primaries t.head.zones 0)
  pub zones : map line_title first.lines ≡ map head_title t.head.zones
  pub ledgers : (z : ℕ) (head : ZoneHead) → slice_get t.head.zones z ≡ Some head → ZoneLedgersFit t z head (ledgers_at first z)
  pub frees : (z : ℕ) → z < length t.head.zones → FreesFit t z (ledgers_at first z)
  pub lines : (z : ℕ) (head : ZoneHead) → slice_get t.head.zones z ≡ Some head → IfSome (slice_get first.lines z) (IsLineOf (last_limit (lines_of t.rounds) z head) head (ledgers_at first z))
  pub hook_names : map (λ (line : HookLine). line.name) first.hooks ≡ map (λ (head : ZoneHead). head.name) t.head.zones
  pub keg_names : map (λ (line : KegLine). line.name) first.kegs ≡ map (λ (place, head). head.name) (primaries t.head.zones 0)
  pub detail : first.detail ≡ t.head.detail
  pub kegs : (k p : ℕ) (head : ZoneHead) → slice_get (primaries t.head.zones 0) k ≡ Some (p, head) → IfSome (slice_get first.kegs k) (KegAddsUp t first (p, head))
  pub uses : (z : ℕ) → z < length t.head.zones → IfSome (slice_get first.lines z) (λ line. IfSome (slice_get first.hooks z) (UsesAreBuilt line))
  pub clock : ClockLineFits t t.head.clock first.clock

pub stands_plain : (t : Trace) (report : Report) (size : ℕ) (outs_of frees_of : ℕ → ℕ) → Ends t report size outs_of frees_of → StandsPlain t report
stands_plain t report size outs_of frees_of e =
    let heads = t.head.zones in
    let line_name = λ (line : HookLine). line.name in
    let keg_name = λ (line : KegLine). line.name in
    let head_name = λ (head : ZoneHead). head.name in
    record {
      line_count = e.line_count;
      ledger_count = e.ledger_count;
      hook_count = e.hook_count;
      keg_count = e.keg_count;
      zones = same_images line_title head_title report.lines heads e.line_count
          (λ k line head at_line at. ap line_title (same_Some line (zone_line head.name head.size (last_limit (lines_of t.rounds) k head) (e.zone k head at).ledgers (outs_of k) (frees_of k)) (sym at_line ∙ (e.zone k head at).at_line)));
      ledgers = λ z head at. ledgers_fit t report size z head (outs_of z) (frees_of z) (e.zone z head at);
      frees = λ z below. let found = some_at heads z below in
          zone_frees t report size z found.0 (outs_of z) (frees_of z) e.valid e.most (e.zone z found.0 found.1);
      lines = λ z head at. zone_line_of t report size z head (outs_of z) (frees_of z) (e.zone z head at);
      hook_names = same_images line_name head_name report.hooks heads e.hook_count
          (λ k line head at_line at. let zone = e.zone k head at in ap line_name (same_Some line zone.hooks (sym at_line ∙ zone.at_hooks)) ∙ zone.named);
      keg_names = pair_images keg_name head_name report.kegs (primaries heads 0) e.keg_count
          (λ k line p head at_line at. let keg = e.keg k p head at in ap keg_name (same_Some line keg.line (sym at_line ∙ keg.at)) ∙ keg.named);
      detail = e.detail;
      kegs = λ k p head at. let keg = e.keg k p head at in
          if_at (slice_get report.kegs k) (KegAddsUp t report (p, head)) keg.line keg.at
          (keg_adds_up t report size outs_of frees_of k p head e (primary_is heads 0 k p head at) keg);
      uses = λ z below. let found = some_at heads z below in
          let zone = e.zone z found.0 found.1 in
          let line = zone_line found.0.name found.0.size (last_limit (lines_of t.rounds) z found.0) zone.ledgers (outs_of z) (frees_of z) in
          if_at (slice_get report.lines z) (λ line. IfSome (slice_get report.hooks z) (UsesAreBuilt line)) line zone.at_line
          (if_at (slice_get report.hooks z) (UsesAreBuilt line) zone.hooks zone.at_hooks (zone_uses t report size z found.0 (outs_of z) (frees_of z) zone));
      clock = e.clock;
    }
