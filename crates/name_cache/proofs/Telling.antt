-- What a pass knows from one step of a call to the next.
use Rattle.std.proofs.Common.{◌≡◌, ℕ, ◌+◌, ◌≤◌, List, ◌++◌, ◌∙◌, sym, ap, subst, ⊎_elim, arith}
use Rattle.smr_clock.specs.declared.view.View.{View}
use Rattle.name_rows.specs.declared.names.Part.{Part}
use Rattle.name_rows.specs.declared.names.Record.{Record}
use Rattle.name_rows.specs.Records.{In, learned}
use Rattle.name_rows.specs.Laws.{in_left}
use Rattle.uma_zone.specs.Told.{TakesInNote}
use Rattle.name_cache.specs.Known.{StillKnows, Meets, IsAbove}
use Rattle.name_cache.specs.declared.binding.Receipt.{Receipt}

pub still_then : (v w x : View Part) → StillKnows v w → StillKnows w x → StillKnows v x
still_then v w x one other r i = other r (one r i)

-- as it was
pub still_host : (v w : View Part) → w.host ≡ v.host → StillKnows v w
still_host v w same r i = subst (λ (p : Part). In r p.known) (sym same) i

-- with more behind it
pub still_more : (v w : View Part) (more : List Record) → w.host.known ≡ v.host.known ++ more → StillKnows v w
still_more v w more is r i = subst (λ (l : List Record). In r l) (sym is) (in_left v.host.known more r i)

pub still_taken : (v w : View Part) → TakesInNote learned v.host w.host → StillKnows v w
still_taken v w took = ⊎_elim (λ same. still_host v w same) (λ t. still_more v w t.0.known (ap (λ (p : Part). p.known) t.1)) took

pub meets_from : (v w x : View Part) (row : ℕ) (last : Record) → StillKnows v w → Meets w row last x → Meets v row last x
meets_from v w x row last knew met = record {
  knows = met.knows;
  of_row = met.of_row;
  newest = λ r i same. met.newest r (knew r i) same;
}

pub meets_to : (v w x : View Part) (row : ℕ) (last : Record) → Meets v row last w → StillKnows w x → Meets v row last x
meets_to v w x row last met knows = record {
  knows = knows last met.knows;
  of_row = met.of_row;
  newest = met.newest;
}

-- the version after the newest that the pass knew is above all of them
pub above_next : (v w : View Part) (receipt : Receipt) (before : Record) → Meets v receipt.row before w → receipt.version ≡ before.version + 1 → IsAbove receipt.row receipt.version v
above_next v w receipt before met next r i same =
    let low : r.version ≤ before.version = met.newest r i (same ∙ sym met.of_row) in
    omega (arith, low, next)
