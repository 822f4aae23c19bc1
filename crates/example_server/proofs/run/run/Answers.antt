use denote.Param.Send.{sendable}
use Rattle.std.proofs.Common.{◌≡◌, ◌∙◌, All, ap, drop, length, subst, sym}
use Rattle.example_server.specs.Serving.{AsksEach}
use Rattle.example_server.proofs.Rounds.{all_at_last, lent_back, no_list_left}
use Rattle.example_server.proofs.run.run.Goals as goal

pub serve-requires : goal.serve-requires
serve-requires g c =
    let many : length c.as_mut_slice.result.now ≡ 4 = ap length c.as_mut_slice.ensures.value ∙ c.in_ok-workers.ensures.count in
    let each : All (AsksEach 4) c.as_slice.result.now = subst (All (AsksEach 4)) (sym c.as_slice.ensures.value) c.in_ok-rounds.ensures in
    (search (c.type_bounds.sync-R, sendable), no_list_left c.as_slice.result.now (length c.as_mut_slice.result.now) 4 many each)

pub print_report-requires : goal.print_report-requires
print_report-requires g c =
    let hired = c.in_ok-workers.workers in
    let now = c.serve.new.workers in
    let last : c.as_slice-2.result.now ≡ now = c.as_slice-2.ensures.value ∙ lent_back hired.len now (drop (length now) hired.items) (c.serve.ensures.count ∙ c.as_mut_slice.ensures.len) in
    all_at_last _ c.as_slice.result.now hired.items c.as_mut_slice.result.now now c.as_slice-2.result.now c.as_mut_slice.ensures.value last c.serve.ensures.count c.in_ok-workers.ensures.begin c.serve.ensures.served
