-- The ledgers of the first workers' seats are collected.
use Rattle.std.specs.Prelude.{take}
use Rattle.uma_replay.specs.Names.{AreNameLedgers}
use Rattle.uma_replay.proofs.names.name_ledgers.Given as goal

abbrev pub invariant-loop-number : goal.invariant-loop-number
invariant-loop-number g l = AreNameLedgers g.N.NameCalls (take l.number l.name_works) l.ledgers.items
