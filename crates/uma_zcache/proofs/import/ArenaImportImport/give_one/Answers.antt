use Rattle.uma_zcache.specs.ArenaImport.{import_outside}
use Rattle.uma_zcache.proofs.Ranges.{contains}
use Rattle.uma_zcache.proofs.import.ArenaImportImport.give_one.Goals as goal

pub unreachable-requires : goal.unreachable-requires
unreachable-requires c = c.in_default.ensures.refused.1 (contains (import_outside c.args.self.now) c.args.base c.requires)
