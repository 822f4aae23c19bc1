use Rattle.uma_zone.proofs.zone.Zone.add.Goals as goal

pub drop-guard-requires : goal.drop-guard-requires
drop-guard-requires g c = c.add_zone-added.ensures.keeps _ c.lock-guard.ensures.kept
