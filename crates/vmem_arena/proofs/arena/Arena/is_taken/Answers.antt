use Rattle.vmem_arena.proofs.Keeping.{is_among, not_among, none_among, is_true_by}
use Rattle.vmem_arena.proofs.arena.Arena.is_taken.Goals as goal

pub returns-in-Some : goal.returns-in-Some
returns-in-Some c =
    let at = c.in-Some.ensures.some in
    rw (← c.self.view_is) (λ t. is_among c.self.inside c.args.base c.in-Some.range at t, λ m. is_true_by c.in-Some.range.taken (λ f. not_among c.self.inside c.args.base c.in-Some.range c.self.invariant at f m))

pub returns-in-None : goal.returns-in-None
returns-in-None c =
    rw (← c.self.view_is) (λ t. cc t, λ m. absurd (none_among c.self.inside c.args.base c.in-None.ensures.none m))
