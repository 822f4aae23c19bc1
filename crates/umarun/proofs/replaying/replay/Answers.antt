use Rattle.std.proofs.Common.{rules, ◌≡◌, ◌≤◌, length, sym, ◌∙◌, arith}
use Rattle.std.proofs.lemmas.Result.{err_from_is_err_and}
use Rattle.umarun.specs.declared.fault.Fault.TheVariants as faults
use Rattle.umarun.specs.Replaying.{most_bytes}
use Rattle.umarun.proofs.Outcomes.{refuses, replays}
use Rattle.umarun.proofs.replaying.replay.Goals as goal

pub returns-in_err-trace : goal.returns-in_err-trace
returns-in_err-trace g c = record {
  replays = search rules;
  free = search rules;
  text = search rules;
  end = search rules;
  read = search rules;
  too_long = search rules;
  refused = λ refused is.
      let within : length c.in_ok-bytes.bytes.items ≤ most_bytes = let len = c.in_ok-bytes.bytes.ok in let le = c.in_ok-bytes.ensures.within in omega arith in
      let passed = err_from_is_err_and c.from_residual-in_err-trace.result c.from_residual-in_err-trace.ensures.1 in
      let same : passed.0 ≡ faults.Trace refused = let e = sym passed.1 ∙ is in cc in
      refuses (g.S.Source.bytes_left c.args.source.now) c.in_ok-bytes.bytes.items c.deref.result.now c.in_err-trace.field-0.0 passed.0 refused
      c.in_ok-bytes.ensures.all c.deref.ensures.value within c.in_err-trace.ensures.refused passed.2 same;
  no_step = search rules;
  command = search rules;
  unwritten = search rules;
}

pub returns : goal.returns
returns g c =
    let within : length c.in_ok-bytes.bytes.items ≤ most_bytes = let len = c.in_ok-bytes.bytes.ok in let le = c.in_ok-bytes.ensures.within in omega arith in
    let left = g.S.Source.bytes_left c.args.source.now in
    let played = c.in_ok-played.played in
    record {
      replays =
          replays left c.in_ok-bytes.bytes.items c.deref.result.now c.in_ok-trace.trace played.report played.ended
          c.in_ok-bytes.ensures.all c.deref.ensures.value within c.in_ok-trace.ensures.read c.in_ok-trace.ensures.valid
          c.in_ok-played.ensures.stands c.in_ok-played.ensures.hall c.in_ok-played.ensures.headline;
      free = search rules;
      text = search rules;
      end = search rules;
      read = search rules;
      too_long = search rules;
      refused = search rules;
      no_step = search rules;
      command = search rules;
      unwritten = search rules;
    }

-- want of memory for the report's text is passed on as that
pub returns-in_err-text : goal.returns-in_err-text
returns-in_err-text g c =
    let passed = err_from_is_err_and c.from_residual-in_err-text.result c.from_residual-in_err-text.ensures.1 in
    let memory : passed.0 ≡ faults.Memory = passed.2 in
    record {
      replays = search rules;
      free = search rules;
      text = search rules;
      end = search rules;
      read = search rules;
      too_long = λ most is. let same : passed.0 ≡ faults.TooLong most = let e = sym passed.1 ∙ is in cc in absurd cc;
      refused = λ refused is. let same : passed.0 ≡ faults.Trace refused = let e = sym passed.1 ∙ is in cc in absurd cc;
      no_step = λ line refused is. let same : passed.0 ≡ faults.Step line refused = let e = sym passed.1 ∙ is in cc in absurd cc;
      command = search rules;
      unwritten = search rules;
    }
