use Rattle.std.proofs.Common.{◌∙◌, ap}
use Rattle.uma.proofs.Lines.{same_line}
use Rattle.uma.proofs.directory.Directory.stats.Goals as goal

pub returns-clause-line : goal.returns-clause-line
returns-clause-line g c =
    record {
      census = c.in-Ok.census;
      of_directory = c.in-Ok.ensures.table;
      all = c.sum.ensures ∙ same_line 64 0 _ _ _ _ _ _ _ _ (c.as_slice.ensures.value ∙ c.in-Ok-counts_in.ensures) c.in-Some.ensures.1 c.outs.ensures (ap (λ k. k.free) c.counts.ensures);
    }
