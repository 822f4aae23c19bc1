use Rattle.uma_zone.proofs.zone.Zone.open.Goals as goal

pub drop-guard-requires-2 : goal.drop-guard-requires-2
drop-guard-requires-2 g c = c.new_share.ensures.keeps _ c.lock-guard.ensures.kept
