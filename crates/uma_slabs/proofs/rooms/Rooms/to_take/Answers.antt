use Rattle.uma_slabs.proofs.StandingSets.{chosen_whole, none_chosen, none_partly}
use Rattle.uma_slabs.proofs.rooms.Rooms.to_take.Goals as goal

pub returns-in-None-clause-chosen : goal.returns-in-None-clause-chosen
returns-in-None-clause-chosen c =
    let rooms = c.self.inside.rooms.items in
    let none = none_partly rooms c.self.inside.standings.partly_used c.first.result c.in-None.is c.self.invariant.partly_used c.first.ensures.none in
    rw (← c.self.view_is) (chosen_whole rooms c.self.inside.standings.wholly_free c.first-in-None.result c.self.invariant.places none c.self.invariant.wholly_free c.first-in-None.ensures.least)

pub returns-in-None-clause-none : goal.returns-in-None-clause-none
returns-in-None-clause-none c =
    let rooms = c.self.inside.rooms.items in
    let none = none_partly rooms c.self.inside.standings.partly_used c.first.result c.in-None.is c.self.invariant.partly_used c.first.ensures.none in
    rw (← c.self.view_is) (none_chosen rooms c.self.inside.standings.wholly_free c.first-in-None.result none c.self.invariant.wholly_free c.first-in-None.ensures.none)
