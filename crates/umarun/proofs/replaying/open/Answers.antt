use Rattle.std.proofs.Common.{◌*◌, ℕ, Option, ap, subst, sym, ◌∙◌}
use Rattle.std.specs.Prelude.{IfSome}
use Rattle.smr_clock.specs.declared.clock.Setup.{Setup}
use Rattle.smr_clock.specs.Making.{setup}
use Rattle.trace_text.specs.declared.trace.ClockHead.{ClockHead}
use Rattle.trace_text.specs.Valid.{ClockFits}
use Rattle.name_cache.proofs.Opening.{is_opened}
use Rattle.replay_worker.specs.Clocks.{start_of, window_of}
use Rattle.replay_rounds.proofs.Passes.{passes_of}
use Rattle.umarun.proofs.Ranges.{in_range, names_lack, plan_fits}
use Rattle.umarun.proofs.replaying.open.Goals as goal

pub returns-in-Ok-clause-opens : goal.returns-in-Ok-clause-opens
returns-in-Ok-clause-opens c =
    let made = c.in-Ok.ensures.made in
    let clock = c.in-Some.clock in
    let plan : ℕ × ℕ = (c.args.line.now.rows, c.args.line.now.slabs * 64) in
    record {
      clock = made.clock ∙ ap (λ (o : Option ClockHead). setup c.args.head.now.workers (start_of o) (window_of o) plan) (sym c.in-Some.is);
      passes = passes_of c.args.head.now.workers c.in-Ok.opened.clock c.in-Ok.opened.passes (ap (λ (s : Setup). s.config.seats) made.clock) made.passes;
      whole = is_opened c.in-Ok.opened (setup c.args.head.now.workers clock.start clock.window plan) _ made.clock made.names made.long made.rows made.root;
      rows = made.rows;
    }

pub returns-in-Err-clause-refused : goal.returns-in-Err-clause-refused
returns-in-Err-clause-refused c =
    let clock = c.in-Some.clock in
    let line = c.args.line.now in
    let workers = c.args.head.now.workers in
    let plan : ℕ × ℕ = (line.rows, line.slabs * 64) in
    let fits = subst (λ (o : Option ClockHead). IfSome o ClockFits) c.in-Some.is c.requires.clock in
    names_lack (setup workers clock.start clock.window plan).config line.rows (line.slabs * 64) c.in-Err.refused
    (in_range workers clock plan c.requires.few_workers fits) (plan_fits c.args.head.now line c.requires.fits) c.in-Err.ensures.refused
