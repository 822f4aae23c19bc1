use Rattle.std.proofs.Common.{sym, subst, List, Option, ℕ, vec_capacity, arith}
use Rattle.uma_zcache.specs.HomeList.{Lists}
use Rattle.uma_zcache.proofs.HomeLists.{lists_all}
use Rattle.uma_zcache.proofs.locked.Entries.new.Goals as goal

pub invariant_of-result : goal.invariant_of-result
invariant_of-result c =
    let home = c.in_ok-home.home in
    let made = c.in_ok-home.ensures in
    subst (λ (l : List (Option ℕ)). Lists l home.items (vec_capacity home)) (sym c.in_ok-bases.ensures)
    (lists_all c.args.numbers home.items (vec_capacity home) c.requires (omega (arith, made.room)) made.all made.listed made.others)
