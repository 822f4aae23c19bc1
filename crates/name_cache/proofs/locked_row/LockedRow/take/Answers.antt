use Rattle.std.proofs.Common.{◌∙◌}
use Rattle.std.proofs.lemmas.Option.{IfSome_then}
use Rattle.smr_clock.specs.Belongs.{view}
use Rattle.name_cache.proofs.Rebinding.{met_too}
use Rattle.name_cache.proofs.locked_row.LockedRow.take.Goals as goal

pub returns : goal.returns
returns c =
    let unlinked = c.unlink-out.ensures in
    let met = c.meet.ensures.met in
    record {
      unlinks = record {
        identity = met.identity ∙ unlinked.identity;
        guest = met.same.guest ∙ unlinked.guest;
        last = IfSome_then c.unlink-out.result unlinked.last (λ x is. met.same.last ∙ is);
        version = IfSome_then c.unlink-out.result unlinked.version (λ x is. met.same.version ∙ is);
        evicted = unlinked.evicted;
      };
      told = met_too (view c.args.pass.now) (view c.meet.new.pass) c.unlink-out.new.self c.meet.new.self met.identity met.same met.meets;
      pass = c.meet.ensures.pass;
    }
