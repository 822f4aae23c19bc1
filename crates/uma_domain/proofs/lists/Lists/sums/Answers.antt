use Rattle.std.proofs.Common.{◌<◌, ◌≤◌, ◌+◌, ◌-◌, ◌^◌, length, take, sum_by, subst, sym, arith}
use Rattle.std.proofs.lemmas.List.Elements.{All-get_or}
use Rattle.std.proofs.lemmas.List.Sums.{sum_by-take-le}
use Rattle.uma_domain.specs.Identity.{key_identity}
use Rattle.uma_domain.specs.Listed.{IsPlainOf, IsLooseOf, IsSealedOf, plain_len, loose_len, sealed_len}
use Rattle.uma_domain.specs.Sums.{plain_times, loose_times, sealed_times}
use Rattle.uma_domain.proofs.Summed.{of_more, same_sums, sums_more, sums_whole, sums_begin, sums_none, no_deferred}
use Rattle.uma_domain.proofs.lists.Lists.sums.Goals as goal

pub loop-plain_at-init : goal.loop-plain_at-init
loop-plain_at-init g c =
    let lists = c.args.self.now in
    let zone = (key_identity lists.key.value).home.zone in
    sums_begin plain_times (λ bucket. 0) plain_len (λ hook. 0) 0 0 zone lists.plain.items c.none-sums.result (sums_none zone c.none-sums.result c.none-sums.ensures.none (c.none-sums.ensures.few 0) (c.none-sums.ensures.balance zone))

pub add_to-requires : goal.add_to-requires
add_to-requires g c =
    let lists = c.args.self.now in
    let part = sum_by-take-le plain_len lists.plain.items c.loop-plain_at.plain_at in
    of_more (0 + sum_by plain_len (take c.loop-plain_at.plain_at lists.plain.items)) (2 ^ 62) c.loop-plain_at.sums (omega (arith, part, lists.counted, lists.bounded.few, lists.bounded.below_greatest)) c.loop-plain_at.invariant.few

pub loop-plain_at-preserved : goal.loop-plain_at-preserved
loop-plain_at-preserved g c =
    let lists = c.args.self.now in
    let home = (key_identity lists.key.value).home in
    let at = c.loop-plain_at.plain_at in
    let within : at < length lists.plain.items = omega (arith, c.loop-plain_at-test.true, c.len-plain_at-end.ensures, lists.plain.ok.0) in
    let of : IsPlainOf home c.index.result.now = subst (IsPlainOf home) (sym c.index.ensures) (All-get_or (IsPlainOf home) lists.plain.items at c.index.result.now within lists.plain_here) in
    sums_more plain_times (λ bucket. 0) plain_len (λ hook. 0) 0 0 home.zone lists.plain.items at c.index.result.now c.loop-plain_at.sums c.add_to.new.sums within c.index.ensures c.loop-plain_at.invariant
    c.add_to.ensures.adds c.add_to.ensures.few (c.add_to.ensures.balance home of.at_home)

pub loop-loose_at-init : goal.loop-loose_at-init
loop-loose_at-init g c =
    let lists = c.args.self.now in
    let zone = (key_identity lists.key.value).home.zone in
    let past : length lists.plain.items ≤ c.loop-plain_at.plain_at = omega (arith, c.loop-plain_at-test.false, c.len-plain_at-end.ensures, lists.plain.ok.0) in
    let whole = sums_whole plain_times (λ bucket. 0) plain_len (λ hook. 0) 0 0 zone lists.plain.items c.loop-plain_at.plain_at c.loop-plain_at.sums past c.loop-plain_at.invariant in
    let zero = no_deferred lists.plain.items in
    sums_begin loose_times loose_len loose_len (λ hook. sum_by (plain_times hook) lists.plain.items) 0 (sum_by plain_len lists.plain.items) zone lists.loose.items c.loop-plain_at.sums
    (same_sums _ (λ hook. sum_by (plain_times hook) lists.plain.items) _ 0 _ (sum_by plain_len lists.plain.items) zone c.loop-plain_at.sums (λ hook. omega arith) (omega (arith, zero)) (omega arith) whole)

pub add_to-requires-in-loop-loose_at : goal.add_to-requires-in-loop-loose_at
add_to-requires-in-loop-loose_at g c =
    let lists = c.args.self.now in
    let part = sum_by-take-le loose_len lists.loose.items c.loop-loose_at.loose_at in
    of_more (sum_by plain_len lists.plain.items + sum_by loose_len (take c.loop-loose_at.loose_at lists.loose.items)) (2 ^ 62) c.loop-loose_at.sums (omega (arith, part, lists.counted, lists.bounded.few, lists.bounded.below_greatest)) c.loop-loose_at.invariant.few

pub loop-loose_at-preserved : goal.loop-loose_at-preserved
loop-loose_at-preserved g c =
    let lists = c.args.self.now in
    let home = (key_identity lists.key.value).home in
    let at = c.loop-loose_at.loose_at in
    let within : at < length lists.loose.items = omega (arith, c.loop-loose_at-test.true, c.len-loose_at-end.ensures, lists.loose.ok.0) in
    let of : IsLooseOf home c.index-in-loop-loose_at.result.now = subst (IsLooseOf home) (sym c.index-in-loop-loose_at.ensures) (All-get_or (IsLooseOf home) lists.loose.items at c.index-in-loop-loose_at.result.now within lists.loose_here) in
    sums_more loose_times loose_len loose_len (λ hook. sum_by (plain_times hook) lists.plain.items) 0 (sum_by plain_len lists.plain.items) home.zone lists.loose.items at c.index-in-loop-loose_at.result.now c.loop-loose_at.sums c.add_to-in-loop-loose_at.new.sums within c.index-in-loop-loose_at.ensures c.loop-loose_at.invariant
    c.add_to-in-loop-loose_at.ensures.adds c.add_to-in-loop-loose_at.ensures.few (c.add_to-in-loop-loose_at.ensures.balance home of.at_home)

pub loop-sealed_at-init : goal.loop-sealed_at-init
loop-sealed_at-init g c =
    let lists = c.args.self.now in
    let zone = (key_identity lists.key.value).home.zone in
    let past : length lists.loose.items ≤ c.loop-loose_at.loose_at = omega (arith, c.loop-loose_at-test.false, c.len-loose_at-end.ensures, lists.loose.ok.0) in
    let whole = sums_whole loose_times loose_len loose_len (λ hook. sum_by (plain_times hook) lists.plain.items) 0 (sum_by plain_len lists.plain.items) zone lists.loose.items c.loop-loose_at.loose_at c.loop-loose_at.sums past c.loop-loose_at.invariant in
    sums_begin sealed_times sealed_len sealed_len (λ hook. sum_by (plain_times hook) lists.plain.items + sum_by (loose_times hook) lists.loose.items) (sum_by loose_len lists.loose.items) (sum_by plain_len lists.plain.items + sum_by loose_len lists.loose.items) zone lists.sealed.items c.loop-loose_at.sums
    (same_sums _ (λ hook. sum_by (plain_times hook) lists.plain.items + sum_by (loose_times hook) lists.loose.items) _ (sum_by loose_len lists.loose.items) _ (sum_by plain_len lists.plain.items + sum_by loose_len lists.loose.items) zone c.loop-loose_at.sums (λ hook. omega arith) (omega arith) (omega arith) whole)

pub add_to-requires-in-loop-sealed_at : goal.add_to-requires-in-loop-sealed_at
add_to-requires-in-loop-sealed_at g c =
    let lists = c.args.self.now in
    let part = sum_by-take-le sealed_len lists.sealed.items c.loop-sealed_at.sealed_at in
    of_more (sum_by plain_len lists.plain.items + sum_by loose_len lists.loose.items + sum_by sealed_len (take c.loop-sealed_at.sealed_at lists.sealed.items)) (2 ^ 62) c.loop-sealed_at.sums (omega (arith, part, lists.counted, lists.bounded.few, lists.bounded.below_greatest)) c.loop-sealed_at.invariant.few

pub loop-sealed_at-preserved : goal.loop-sealed_at-preserved
loop-sealed_at-preserved g c =
    let lists = c.args.self.now in
    let home = (key_identity lists.key.value).home in
    let identity = key_identity lists.key.value in
    let at = c.loop-sealed_at.sealed_at in
    let within : at < length lists.sealed.items = omega (arith, c.loop-sealed_at-test.true, c.len-sealed_at-end.ensures, lists.sealed.ok.0) in
    let of : IsSealedOf identity c.index-in-loop-sealed_at.result.now = subst (IsSealedOf identity) (sym c.index-in-loop-sealed_at.ensures) (All-get_or (IsSealedOf identity) lists.sealed.items at c.index-in-loop-sealed_at.result.now within lists.sealed_here) in
    sums_more sealed_times sealed_len sealed_len (λ hook. sum_by (plain_times hook) lists.plain.items + sum_by (loose_times hook) lists.loose.items) (sum_by loose_len lists.loose.items) (sum_by plain_len lists.plain.items + sum_by loose_len lists.loose.items) home.zone lists.sealed.items at c.index-in-loop-sealed_at.result.now c.loop-sealed_at.sums c.add_to-in-loop-sealed_at.new.sums within c.index-in-loop-sealed_at.ensures c.loop-sealed_at.invariant
    c.add_to-in-loop-sealed_at.ensures.adds c.add_to-in-loop-sealed_at.ensures.few (c.add_to-in-loop-sealed_at.ensures.balance home of.bucket.at_home)

pub returns : goal.returns
returns g c =
    let lists = c.args.self.now in
    let past : length lists.sealed.items ≤ c.loop-sealed_at.sealed_at = omega (arith, c.loop-sealed_at-test.false, c.len-sealed_at-end.ensures, lists.sealed.ok.0) in
    let part = sum_by-take-le sealed_len lists.sealed.items c.loop-sealed_at.sealed_at in
    let count = sum_by plain_len lists.plain.items + sum_by loose_len lists.loose.items + sum_by sealed_len (take c.loop-sealed_at.sealed_at lists.sealed.items) in
    record {
      adds = (sums_whole sealed_times sealed_len sealed_len (λ hook. sum_by (plain_times hook) lists.plain.items + sum_by (loose_times hook) lists.loose.items) (sum_by loose_len lists.loose.items) (sum_by plain_len lists.plain.items + sum_by loose_len lists.loose.items) (key_identity lists.key.value).home.zone lists.sealed.items c.loop-sealed_at.sealed_at c.loop-sealed_at.sums past c.loop-sealed_at.invariant).adds;
      few = of_more count (2 ^ 32) c.loop-sealed_at.sums (omega (arith, part, lists.counted, lists.bounded.few, lists.bounded.below_greatest)) c.loop-sealed_at.invariant.few;
      below = of_more count (2 ^ 32 - 1) c.loop-sealed_at.sums (omega (arith, part, lists.counted, lists.bounded.few, lists.bounded.below_greatest)) c.loop-sealed_at.invariant.few;
      balance = c.loop-sealed_at.invariant.balance;
    }
