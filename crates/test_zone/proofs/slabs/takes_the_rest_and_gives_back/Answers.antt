use Rattle.std.proofs.Common.{◌≡◌, ◌⊎◌, ◌↔◌, ℕ, Option, Some, None, inl}
use Rattle.std.specs.Option.{IfSome, IfNone}
use Rattle.uma_slabs.specs.Places.{KegPlaces, IsOut}
use Rattle.test_zone.proofs.slabs.takes_the_rest_and_gives_back.Goals as goal

still_out : (o : Option ℕ) (old new : KegPlaces) (held : ℕ) → IfSome o (λ n. (other : ℕ) → IsOut new other ↔ (IsOut old other ⊎ (other ≡ n))) → IfNone o (new ≡ old) → IsOut old held → IsOut new held
still_out None old new held outs same out = rw same out
still_out (Some n) old new held outs same out = (outs held).1 (inl out)

pub loop-preserved : goal.loop-preserved
loop-preserved c = still_out c.take.result _ _ c.args.held c.take.ensures.outs c.take.ensures.unchanged c.loop.invariant
