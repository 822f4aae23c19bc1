use Rattle.std.proofs.Common.{Option, sym, subst}
use Rattle.uma_bucket.specs.declared.shelved.Shelved.{Shelved}
use Rattle.uma_zone.specs.Flushing.{PutsOne}
use Rattle.uma_zone.proofs.domains.ZoneDomains.put_if_some.Goals as goal

pub returns-in-Some : goal.returns-in-Some
returns-in-Some g c = subst (λ (o : Option (Shelved _ _ _ _ _)). PutsOne c.args.self.now c.args.seat.now o c.put.result c.put.new.seat) (sym c.in-Some.is) c.put.ensures
