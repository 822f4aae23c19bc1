use Rattle.std.proofs.Common.{arith}
use Rattle.smr_clock.specs.Belongs.{view}
use Rattle.smr_hold.proofs.LookLemmas.{finds_none, looks}
use Rattle.smr_hold.proofs.holds.look.Goals as goal

pub returns-then-version-eq0-clause-none : goal.returns-then-version-eq0-clause-none
returns-then-version-eq0-clause-none c = λ e. finds_none (view c.args.pass.now) c.args.cell c.load_cell-version.result.1 (view c.load_cell-version.new.pass) (c.load_cell-version.ensures.sees.none c.if-version-eq0.true)

pub returns-clause-some : goal.returns-clause-some
returns-clause-some c =
    looks (view c.args.pass.now) c.args.cell c.load_cell-version.result.0 c.load_cell-version.result.1 c.load_value-value.result (view c.load_cell-version.new.pass) (view c.load_value-value.new.pass) c.requires.inside (let f = c.if-version-eq0.false in omega arith)
    (c.load_cell-version.ensures.sees.some (let f = c.if-version-eq0.false in omega arith)) c.load_value-value.ensures.kept.same c.load_value-value.ensures.reads.looked
