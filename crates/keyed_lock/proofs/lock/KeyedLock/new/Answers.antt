use Rattle.std.proofs.Common.{sym, subst, ◌∷◌, []}
use Rattle.atomic_table.specs.Table.{opening}
use Rattle.keyed_lock.specs.declared.lock.TheConstants.{UNLOCKED}
use Rattle.keyed_lock.specs.Protocol.{ObeysLaw}
use Rattle.keyed_lock.proofs.ProtocolSteps.{opens}
use Rattle.keyed_lock.proofs.lock.KeyedLock.new.Goals as goal

pub new-requires : goal.new-requires
new-requires g c =
    let rule = g.P.LockRule.keeps in
    let key = c.args.key.now in
    subst (λ slots. ObeysLaw rule key (opening (UNLOCKED ∷ []) slots key)) (sym c.in_ok-one_slot.ensures.ok) (opens rule key c.args.value c.requires)
