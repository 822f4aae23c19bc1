use Rattle.std.proofs.Common.{◌≡◌, List, true, sym, ◌∙◌, subst, rules}
use Rattle.std.specs.Prelude.{IsTrue}
use Rattle.replay_worker.specs.declared.name_work.NameWork.{NameWork}
use Rattle.uma_replay.specs.Names.{first_counts}
use Rattle.uma_replay.proofs.WorkerRuns.{serve_where_counted}
use Rattle.uma_replay.proofs.report.collect.Goals as goal

pub name_ledgers-requires : goal.name_ledgers-requires
name_ledgers-requires g c =
    let P : List (NameWork _ _ _ _ _) → Type 0 = λ list. first_counts g.N.NameCalls list ≡ true in
    let serves : IsTrue g.N.NameCalls.serves = serve_where_counted g.N.NameCalls c.args.name_works.now (subst P c.as_slice-2.ensures (sym c.do_count.ensures ∙ c.if-do_count.true)) in
    search rules
