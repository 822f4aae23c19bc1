use Rattle.uma_slabs.specs.Room.{is_absent}
use Rattle.uma_slabs.proofs.StandingSets.{first_found, none_found}
use Rattle.uma_slabs.proofs.rooms.Rooms.first_absent.Goals as goal

pub returns-clause-first : goal.returns-clause-first
returns-clause-first c = rw (← c.self.view_is) (first_found is_absent c.self.inside.rooms.items c.self.inside.standings.absent c.first.result c.self.invariant.absent c.first.ensures.least)

pub returns-clause-none : goal.returns-clause-none
returns-clause-none c = rw (← c.self.view_is) (none_found is_absent c.self.inside.rooms.items c.self.inside.standings.absent c.first.result c.self.invariant.absent c.first.ensures.none)
