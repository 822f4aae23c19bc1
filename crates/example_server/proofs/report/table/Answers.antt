use Rattle.std.proofs.Common.{All, [], ◌∷◌, ◌++◌, subst, sym}
use Rattle.std.proofs.lemmas.List.Elements.{All-push, All-same}
use Rattle.uma.specs.NameTable.{IsNameLedgerOf}
use Rattle.uma.specs.Table.{IsLedgerOf}
use Rattle.example_server.specs.Staff.{IsAt}
use Rattle.example_server.proofs.report.table.Goals as goal

pub loop-worker-preserved : goal.loop-worker-preserved
loop-worker-preserved g c =
    let so_far = c.loop-worker.invariant in
    let shared = c.args.shared.now in
    let worker = c.worker-item.result in
    let at : IsAt shared worker = subst (IsAt shared) (sym c.worker-item.is) (c.requires c.loop-worker.worker-index worker c.loop-worker-test.true) in
    record {
      pooled =
          All-same (IsLedgerOf shared.pool.now) c.push.new.self.items (c.loop-worker.pooled.items ++ c.ledger.result ∷ []) c.in_ok-push.ensures.items
          (All-push (IsLedgerOf shared.pool.now) c.loop-worker.pooled.items c.ledger.result so_far.pooled (subst (λ pool. IsLedgerOf pool c.ledger.result) at.pool c.ledger.ensures.pool));
      named =
          All-same (IsNameLedgerOf shared.directory.now) c.push-in-loop-worker.new.self.items (c.loop-worker.named.items ++ c.ledger-in-loop-worker.result ∷ []) c.in_ok-push-2.ensures.items
          (All-push (IsNameLedgerOf shared.directory.now) c.loop-worker.named.items c.ledger-in-loop-worker.result so_far.named (subst (λ directory. IsNameLedgerOf directory c.ledger-in-loop-worker.result) at.directory c.ledger-in-loop-worker.ensures.directory));
    }

pub stats-requires : goal.stats-requires
stats-requires g c = subst (λ ledgers. All (IsLedgerOf c.args.shared.now.pool.now) ledgers) (sym c.as_slice.ensures.value) c.loop-worker.invariant.pooled

pub stats-requires-2 : goal.stats-requires-2
stats-requires-2 g c = subst (λ ledgers. All (IsNameLedgerOf c.args.shared.now.directory.now) ledgers) (sym c.as_slice-2.ensures.value) c.loop-worker.invariant.named
