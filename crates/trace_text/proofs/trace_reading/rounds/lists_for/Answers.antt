use Rattle.std.proofs.Common.{◌≡◌, map, Vec, ◌∙◌, arith, rules}
use Rattle.std.specs.declared.alloc.Global.{Global}
use Rattle.trace_text.specs.declared.trace.Op.{Op}
use Rattle.trace_text.proofs.PartLists.{lists_are_for}
use Rattle.trace_text.proofs.trace_reading.rounds.lists_for.Goals as goal

pub returns : goal.returns
returns c =
    let cut = c.truncate.new.self in
    let filled = c.fill_up.new.lists in
    let made : c.in_ok-ops.ops.items ≡ map (λ (list : Vec Op Global). list.items) filled.items = search rules in
    c.from_vec.ensures ∙ made
    ∙ lists_are_for c.args.workers c.args.lists.items cut.items filled.items c.truncate.ensures.items c.fill_up.ensures.kept
    (omega (arith, c.in_ok-fill_up.ensures.filled (omega (arith, c.truncate.ensures.len)), filled.ok.0))
