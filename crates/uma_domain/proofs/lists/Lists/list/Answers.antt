use Rattle.std.proofs.Common.{subst}
use Rattle.uma_bucket.specs.Shelved.{CanBeListed}
use Rattle.uma_domain.specs.Lists.{lists_identity}
use Rattle.uma_domain.proofs.Came.{plain_may, loose_may, sealed_may}
use Rattle.uma_domain.proofs.lists.Lists.list.Goals as goal

pub put_plain-requires : goal.put_plain-requires
put_plain-requires g c =
    let identity = lists_identity c.args.self.now in
    plain_may identity.home identity.clock c.in-Plain.domain c.in-Plain.bucket (subst (CanBeListed identity.home identity.clock) c.in-Plain.is c.requires.can)

pub put_loose-requires : goal.put_loose-requires
put_loose-requires g c =
    let identity = lists_identity c.args.self.now in
    loose_may identity.home identity.clock c.in-Loose.domain c.in-Loose.bucket (subst (CanBeListed identity.home identity.clock) c.in-Loose.is c.requires.can)

pub put_sealed-requires : goal.put_sealed-requires
put_sealed-requires g c =
    let identity = lists_identity c.args.self.now in
    sealed_may identity c.in-Sealed.domain c.in-Sealed.bucket (subst (CanBeListed identity.home identity.clock) c.in-Sealed.is c.requires.can)
