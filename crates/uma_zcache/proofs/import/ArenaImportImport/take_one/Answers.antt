use Rattle.vmem_arena.specs.TakenBases.{taken_bases}
use Rattle.uma_zcache.specs.ArenaImport.{import_outside}
use Rattle.uma_zcache.proofs.Ranges.{gains}
use Rattle.uma_zcache.proofs.import.ArenaImportImport.take_one.Goals as goal

pub returns-in-Ok-clause-gains : goal.returns-in-Ok-clause-gains
returns-in-Ok-clause-gains c = gains (import_outside c.args.self.now) (taken_bases c.take.new.self.ranges) c.in-Ok.base c.in-Ok.ensures.bases
