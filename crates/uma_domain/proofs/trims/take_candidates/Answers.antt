use Rattle.std.proofs.Common.{◌≡◌, ◌+◌, ◌∙◌, ap, sym, sum_by, arith}
use Rattle.std.specs.VecDeque.{deque_len}
use Rattle.std.proofs.lemmas.Bool.{eqb-true}
use Rattle.std.proofs.lemmas.List.Sums.{sum_by-append}
use Rattle.uma_domain.specs.Listed.{plain_len}
use Rattle.uma_domain.proofs.Trimmed.{both_kinds}
use Rattle.uma_domain.proofs.Kept.{trims_sum}
use Rattle.uma_domain.proofs.trims.take_candidates.Goals as goal

pub returns-clause-trims : goal.returns-clause-trims
returns-clause-trims g c =
    let none : deque_len c.trim_plain-left.new.plain ≡ 0 = eqb-true (deque_len c.trim_plain-left.new.plain) 0 (sym c.is_empty.ensures ∙ c.if-not-is_empty.false) in
    both_kinds c.args.floor c.args.remain c.args.plain.now.items c.args.sealed.now.items c.args.taken.now.items c.trim_plain-left.result c.trim_plain-left.new.plain.items c.trim_plain-left.new.taken.items c.trim_sealed.result c.trim_sealed.new.sealed.items c.trim_sealed.new.taken.items
    c.requires.empty c.trim_plain-left.ensures.trimmed (omega (arith, none, c.trim_plain-left.new.plain.ok.0)) c.trim_sealed.ensures.trimmed

pub returns-clause-leaves : goal.returns-clause-leaves
returns-clause-leaves g c =
    let p = c.trim_plain-left.ensures.trimmed in
    let s = c.trim_sealed.ensures.trimmed in
    let plain : sum_by plain_len c.args.plain.now.items ≡ sum_by plain_len p.taken + sum_by plain_len c.trim_plain-left.new.plain.items = ap (sum_by plain_len) p.trims.split ∙ sum_by-append plain_len p.taken c.trim_plain-left.new.plain.items in
    let sealed = trims_sum c.args.floor c.trim_plain-left.result c.args.sealed.now.items s.ripe c.trim_sealed.new.sealed.items s.trims in
    record {
      left = omega (arith, p.left, s.left, plain, sealed);
      bound = omega (arith, p.left, s.left);
      shorter = c.trim_sealed.ensures.shorter;
    }
