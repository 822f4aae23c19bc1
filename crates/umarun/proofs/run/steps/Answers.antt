use Rattle.std.proofs.Common.{rules, ◌≡◌, ◌≤◌, length, sym, ◌∙◌, arith}
use Rattle.std.proofs.lemmas.Result.{err_from_is_err_and}
use Rattle.umarun.specs.declared.fault.Fault.TheVariants as faults
use Rattle.umarun.specs.Replaying.{most_bytes}
use Rattle.umarun.proofs.Outcomes.{plays, refuses_step, refuses_text}
use Rattle.umarun.proofs.run.steps.Goals as goal

pub returns-in_err-printed : goal.returns-in_err-printed
returns-in_err-printed g c = record {
  plays = search rules;
  end = search rules;
  read = search rules;
  too_long = search rules;
  refused = search rules;
  step = λ line refused is.
      let within : length c.in_ok-bytes.bytes.items ≤ most_bytes = let len = c.in_ok-bytes.bytes.ok in let le = c.in_ok-bytes.ensures.within in omega arith in
      let passed = err_from_is_err_and c.from_residual-in_err-printed.result c.from_residual-in_err-printed.ensures.1 in
      let same : passed.0 ≡ faults.Step line refused = let e = sym passed.1 ∙ is in cc in
      refuses_step (g.S.Source.bytes_left c.args.source.now) c.in_ok-bytes.bytes.items c.deref.result.now c.in_ok-schedule.schedule c.in_err-printed.field-0.0 passed.0 line refused
      c.in_ok-bytes.ensures.all c.deref.ensures.value within c.in_ok-schedule.ensures.read c.in_err-printed.ensures.refused passed.2 same;
  command = search rules;
  unwritten = search rules;
}

pub returns-in_err-schedule : goal.returns-in_err-schedule
returns-in_err-schedule g c = record {
  plays = search rules;
  end = search rules;
  read = search rules;
  too_long = search rules;
  refused = λ refused is.
      let within : length c.in_ok-bytes.bytes.items ≤ most_bytes = let len = c.in_ok-bytes.bytes.ok in let le = c.in_ok-bytes.ensures.within in omega arith in
      let passed = err_from_is_err_and c.from_residual-in_err-schedule.result c.from_residual-in_err-schedule.ensures.1 in
      let same : passed.0 ≡ faults.Trace refused = let e = sym passed.1 ∙ is in cc in
      refuses_text (g.S.Source.bytes_left c.args.source.now) c.in_ok-bytes.bytes.items c.deref.result.now c.in_err-schedule.field-0.0 passed.0 refused
      c.in_ok-bytes.ensures.all c.deref.ensures.value within c.in_err-schedule.ensures.refused passed.2 same;
  step = search rules;
  command = search rules;
  unwritten = search rules;
}

pub returns : goal.returns
returns g c = record {
  plays =
      let within : length c.in_ok-bytes.bytes.items ≤ most_bytes = let len = c.in_ok-bytes.bytes.ok in let le = c.in_ok-bytes.ensures.within in omega arith in
      plays (g.S.Source.bytes_left c.args.source.now) c.in_ok-bytes.bytes.items c.deref.result.now c.in_ok-schedule.schedule c.in_ok-printed.printed.items
      c.in_ok-bytes.ensures.all c.deref.ensures.value within c.in_ok-schedule.ensures.read c.in_ok-printed.ensures.ok;
  end = search rules;
  read = search rules;
  too_long = search rules;
  refused = search rules;
  step = search rules;
  command = search rules;
  unwritten = search rules;
}
