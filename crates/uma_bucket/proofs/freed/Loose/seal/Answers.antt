use Rattle.std.proofs.Common.{rules, refl}
use Rattle.uma_bucket.proofs.freed.Loose.seal.Goals as goal

pub returns-in-Ok : goal.returns-in-Ok
returns-in-Ok g c =
    record {
      here = search rules;
      phase = search rules;
      seen = search rules;
      host = search rules;
      of_clock = search rules;
      seals = record { between = _; bucket = refl; advance = c.in-Ok.ensures.advanced; noted = c.note-note.ensures.notes };
      back = search rules;
      refused = search rules;
    }
