use Rattle.std.proofs.Common.{◌≡◌, ℕ, ◌+◌, ◌<◌, List, [], ◌∷◌, ◌++◌, length, map, take, get_or, Option, Some, sym, ap, ◌∙◌}
use Rattle.std.proofs.lemmas.List.{map-append, take_all, take_more}
use Rattle.replay_worker.specs.declared.worker.Worker.{Worker}
use Rattle.replay_worker.specs.Together.{ledger_at}
use Rattle.zone_stats.specs.declared.ledger.SeatLedger.{SeatLedger}
use Rattle.uma_replay.proofs.report.seat_ledgers.Goals as goal

-- what is found of one more
found_more : {A B : Type 0} (f : A → Option B) (xs : List A) (k : ℕ) (x : A) (y : B) (before after : List B) → k < length xs → x ≡ get_or xs k x → f x ≡ Some y
    → map f (take k xs) ≡ map Some before → after ≡ before ++ y ∷ [] → map f (take (k + 1) xs) ≡ map Some after
found_more f xs k x y before after below is found so_far pushed =
    let here : f (get_or xs k x) ≡ Some y = ap f (sym is) ∙ found in
    ap (map f) (take_more xs k x below) ∙ (map-append f (take k xs) (get_or xs k x ∷ []) ∙ ((λ i. so_far i ++ here i ∷ []) ∙ (sym (map-append Some before (y ∷ [])) ∙ ap (map Some) (sym pushed))))

pub loop-number-init : goal.loop-number-init
loop-number-init g c = sym (ap (λ (list : List SeatLedger). map Some list) c.in_ok-ledgers.ensures.items)

pub loop-number-preserved : goal.loop-number-preserved
loop-number-preserved g c =
    found_more (ledger_at c.args.place) c.args.workers.now c.loop-number.number c.index-workers-number.result c.seat_ledger.result c.loop-number.ledgers.items c.push.new.self.items
    c.loop-number-test.true c.index-workers-number.is c.seat_ledger.ensures c.loop-number.invariant c.in_ok-push.ensures.items

pub returns : goal.returns
returns g c =
    ap (λ (workers : List (Worker _ _ _)). map (ledger_at c.args.place) workers) (sym (take_all c.loop-number.number c.args.workers.now c.loop-number-test.false))
    ∙ (c.loop-number.invariant ∙ ap (λ (list : List SeatLedger). map Some list) (sym c.from_vec.ensures))
