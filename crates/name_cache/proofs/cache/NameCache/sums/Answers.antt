use Rattle.std.proofs.Common.{◌≡◌, ◌+◌, ◌^◌, ℕ, List, ap, subst, ◌∙◌, arith}
use mathlib.Core.Option.{some}
use lib.ListN.{get_elem?}
use Rattle.smr_core.proofs.PlaceLemmas.{at_index}
use Rattle.uma_bucket.specs.Home.{Home}
use Rattle.uma_bucket.specs.Sums.{Balance}
use Rattle.name_cache.specs.Locks.{RowLock}
use Rattle.name_cache.specs.RowKey.{Identity}
use Rattle.name_cache.proofs.Summing.{linked_none, few_more}
use Rattle.name_cache.proofs.cache.NameCache.sums.Goals as goal

pub loop-row-init : goal.loop-row-init
loop-row-init g c =
    record {
      few = c.in_ok-sums.ensures.few;
      linked = (0, omega arith, linked_none c.in_ok-sums.sums (subst (λ (zone : ℕ). Balance zone c.in_ok-sums.sums) c.args.self.now.primary c.in_ok-sums.ensures.balance));
    }

pub add_row-requires : goal.add_row-requires
add_row-requires g c =
    let cache = c.args.self.now in
    let i = c.loop-row.row-index in
    let locks = c.deref-row-items.result.now in
    let there = at_index locks i c.row-item.result (omega arith) c.row-item.is in
    let named = cache.named i c.row-item.result (subst (λ (l : List RowLock). get_elem? l i ≡ some c.row-item.result) c.deref-row-items.ensures.value there) in
    record {
      primary = ap (λ (id : Identity). id.home.zone) named ∙ ap (λ (h : Home). h.zone) cache.zone.home ∙ cache.primary;
      few = few_more (2 ^ 34 + c.loop-row.row-index) (2 ^ 35) c.loop-row.sums (let long = cache.long in let most = cache.names.plan.few_rows in omega arith) c.loop-row.invariant.few;
    }

pub loop-row-preserved : goal.loop-row-preserved
loop-row-preserved g c =
    let so = c.loop-row.invariant.linked in
    let more = c.add_row.ensures.linked so.0 so.2 in
    record {
      few = few_more (2 ^ 34 + c.loop-row.row-index + 1) (2 ^ 34 + (c.loop-row.row-index + 1)) c.add_row.new.sums (omega arith) (c.add_row.ensures.few (2 ^ 34 + c.loop-row.row-index) c.loop-row.invariant.few);
      linked = (so.0 + more.0, (let a = so.1 in let b = more.1 in omega arith), more.2);
    }

pub returns-clause-few : goal.returns-clause-few
returns-clause-few g c =
    let cache = c.args.self.now in
    few_more (2 ^ 34 + c.loop-row.row-index) (2 ^ 35) c.loop-row.sums (let long = cache.long in let most = cache.names.plan.few_rows in omega arith) c.loop-row.invariant.few
