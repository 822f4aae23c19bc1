use Rattle.uma_slabs.specs.Room.{is_wholly_free}
use Rattle.uma_slabs.proofs.StandingSets.{last_found, none_found}
use Rattle.uma_slabs.proofs.rooms.Rooms.last_wholly_free.Goals as goal

pub returns-clause-last : goal.returns-clause-last
returns-clause-last c = rw (← c.self.view_is) (last_found is_wholly_free c.self.inside.rooms.items c.self.inside.standings.wholly_free c.last.result c.self.invariant.wholly_free c.last.ensures.greatest)

pub returns-clause-none : goal.returns-clause-none
returns-clause-none c = rw (← c.self.view_is) (none_found is_wholly_free c.self.inside.rooms.items c.self.inside.standings.wholly_free c.last.result c.self.invariant.wholly_free c.last.ensures.none)
