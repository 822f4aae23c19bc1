use Rattle.std.proofs.Common.{◌+◌, take, sum_by}
use Rattle.uma_domain.specs.Identity.{key_identity}
use Rattle.uma_domain.specs.Listed.{plain_len, loose_len, sealed_len}
use Rattle.uma_domain.specs.Sums.{plain_times, loose_times, sealed_times}
use Rattle.uma_domain.proofs.Summed.{AreSums}
use Rattle.uma_domain.proofs.lists.Lists.sums.Given as goal

abbrev pub invariant-loop-plain_at : goal.invariant-loop-plain_at
invariant-loop-plain_at g l =
    AreSums (λ hook. 0 + sum_by (plain_times hook) (take l.plain_at l.self.plain.items)) (0 + sum_by (λ bucket. 0) (take l.plain_at l.self.plain.items)) (0 + sum_by plain_len (take l.plain_at l.self.plain.items)) (key_identity l.self.key.value).home.zone l.sums

abbrev pub invariant-loop-loose_at : goal.invariant-loop-loose_at
invariant-loop-loose_at g l =
    AreSums (λ hook. sum_by (plain_times hook) l.self.plain.items + sum_by (loose_times hook) (take l.loose_at l.self.loose.items)) (0 + sum_by loose_len (take l.loose_at l.self.loose.items)) (sum_by plain_len l.self.plain.items + sum_by loose_len (take l.loose_at l.self.loose.items)) (key_identity l.self.key.value).home.zone l.sums

abbrev pub invariant-loop-sealed_at : goal.invariant-loop-sealed_at
invariant-loop-sealed_at g l =
    AreSums (λ hook. sum_by (plain_times hook) l.self.plain.items + sum_by (loose_times hook) l.self.loose.items + sum_by (sealed_times hook) (take l.sealed_at l.self.sealed.items)) (sum_by loose_len l.self.loose.items + sum_by sealed_len (take l.sealed_at l.self.sealed.items)) (sum_by plain_len l.self.plain.items + sum_by loose_len l.self.loose.items + sum_by sealed_len (take l.sealed_at l.self.sealed.items)) (key_identity l.self.key.value).home.zone l.sums
