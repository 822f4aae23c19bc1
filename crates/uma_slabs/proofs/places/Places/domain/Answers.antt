use Rattle.std.proofs.Common.{◌∙◌, sym}
use Rattle.uma_slabs.proofs.KeptRooms.{room_within, domain_at-number, domain_at-some}
use Rattle.uma_slabs.proofs.places.Places.domain.Goals as goal

pub domain-requires : goal.domain-requires
domain-requires c =
    let place = rw (← c.self.view_is) at c.requires in
    room_within c.self.inside c.self.invariant c.args.no place

pub unwrap-requires : goal.unwrap-requires
unwrap-requires c =
    let place = rw (← c.self.view_is) at c.requires in
    rw c.domain.ensures (domain_at-some c.self.inside c.self.invariant c.args.no place)

pub returns : goal.returns
returns c =
    let place = rw (← c.self.view_is) at c.requires in
    let is = domain_at-number c.self.inside c.self.invariant c.args.no place in
    rw (← c.self.view_is) (is ∙ sym c.domain.ensures ∙ c.unwrap.ensures)
