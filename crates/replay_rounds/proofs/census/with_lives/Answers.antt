use Rattle.std.proofs.Common.{◌≡◌, ◌<◌, ◌+◌, ◌++◌, ℕ, List, [], ◌∷◌, length, take, slice_index_or, ap, sym, ◌∙◌, arith}
use Rattle.std.specs.Prelude.{sum_by}
use Rattle.std.proofs.lemmas.List.{take_more}
use Rattle.std.proofs.lemmas.List.Sums.{sum_by-append, sum_by-cons}
use Rattle.uma_life.specs.Hook.{Hook}
use Rattle.uma_life.specs.Sum.{times_of}
use Rattle.replay_worker.specs.Items.{LiveItem, counted_life}
use Rattle.replay_rounds.specs.Slots.{live_sum}
use Rattle.replay_rounds.specs.Lending.{live_times}
use Rattle.replay_rounds.proofs.census.with_lives.Goals as goal

-- the sum over one thing more
sum_more : {X : Type 0} (f : X → ℕ) (xs : List X) (i : ℕ) (x : X) → i < length xs → x ≡ slice_index_or xs i x → sum_by f (take (i + 1) xs) ≡ sum_by f (take i xs) + f x
sum_more f xs i x small is =
    let taken : take (i + 1) xs ≡ take i xs ++ x ∷ [] = take_more xs i x small ∙ ap (λ y. take i xs ++ y ∷ []) (sym is) in
    omega (arith, ap (sum_by f) taken, sum_by-append f (take i xs) (x ∷ []), sum_by-cons f x [])

pub loop-item-preserved : goal.loop-item-preserved
loop-item-preserved c =
    let i = c.loop-item.item-index in
    let item : LiveItem = c.item-item.result in
    let times : (hook : Hook) → times_of c.tally.result hook ≡ live_times hook item = λ hook. ap (λ t. times_of t hook) (c.tally.ensures ∙ ap (λ body. (counted_life body).tally) c.body.ensures.body) in
    let more : (hook : Hook) → live_sum hook (take (i + 1) c.args.lives.now) ≡ live_sum hook (take i c.args.lives.now) + live_times hook item = λ hook. sum_more (live_times hook) c.args.lives.now i item c.loop-item-test.true c.item-item.is in
    record {
      sums = λ hook. omega (arith, c.add.ensures.sums hook, c.loop-item.invariant.sums hook, times hook, more hook);
      room = λ hook. omega (arith, c.add.ensures.sums hook, c.add.ensures.counts hook, c.loop-item.invariant.room hook);
    }
