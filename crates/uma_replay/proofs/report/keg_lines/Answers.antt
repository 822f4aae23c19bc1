use Rattle.std.proofs.Common.{◌≤◌, List, length, sym, arith, subst}
use Rattle.zone_stats.specs.declared.report.KegLine.{KegLine}
use Rattle.uma_replay.specs.Reporting.{AreKegs}
use Rattle.uma_replay.proofs.KegLines.{kegs_all}
use Rattle.uma_replay.proofs.report.keg_lines.Goals as goal

pub returns : goal.returns
returns c =
    let P : List KegLine → Type 0 = λ lines. AreKegs c.args.heads.now c.args.censuses.now c.args.tallies.now lines in
    subst P (sym c.from_vec.ensures) (kegs_all c.args.heads.now c.args.censuses.now c.args.tallies.now c.loop-place.place c.loop-place.lines.items
    (let least : length c.args.heads.now ≤ c.loop-place.place = c.loop-place-test.false in let most : c.loop-place.place ≤ length c.args.heads.now = c.loop-place.auto.place-end in omega arith) c.loop-place.invariant)
