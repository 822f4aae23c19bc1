use Rattle.std.proofs.Common.{◌≡◌, ◌<◌, ◌^◌, ℕ, List, refl, sum, sym, ap, ◌∙◌, subst}
use Rattle.uma_keg.specs.declared.census.Census.{Census}
use Rattle.replay_worker.specs.declared.name_work.NameWork.{NameWork}
use Rattle.replay_rounds.specs.Closes.{AllClose}
use Rattle.uma_replay.specs.Names.{CountsFit, IsWhole, SeatsFit}
use Rattle.uma_replay.specs.Reporting.{IsReportOf}
use Rattle.uma_replay.proofs.Beginning.{gave_ups_few}
use Rattle.uma_replay.proofs.HallOf.{are_seats, entries_few, few_name_works, fit_counts, have_kegs, seat_counts, whole_waits}
use Rattle.uma_replay.proofs.hall.reported.Goals as goal

pub all_gave_up-gave_up-requires : goal.all_gave_up-gave_up-requires
all_gave_up-gave_up-requires g c =
    let P : List ℕ → Type 0 = λ list. sum list < 2 ^ 64 in
    subst P (sym c.as_slice.ensures) (gave_ups_few c.args.trace.now c.args.hall.clock c.args.hall.workers c.args.hall.name_works c.args.hall.gave_ups c.requires.can.valid c.requires.can.few c.requires.can.done.worker_count c.requires.can.ended)

pub report_of-requires : goal.report_of-requires
report_of-requires g c =
    let few = entries_few c.args.trace.now c.args.hall.zones c.args.hall.clock c.args.hall.workers c.requires.can.valid c.requires.can.few c.requires.can.done in
    record {
      kegs = have_kegs c.args.trace.now.head c.requires.can.valid.head;
      each = record {
        censuses = c.requires.closes.censuses_count;
        tallies = c.requires.closes.tallies_count;
      };
      deferred = c.requires.closes.deferred_count;
      seats = seat_counts c.args.trace.now c.args.hall.zones c.args.hall.clock c.args.hall.workers c.requires.can.done;
      sections = record { entered = few.0; late = few.1 };
    }

pub whole_report-requires-clause-fit : goal.whole_report-requires-clause-fit
whole_report-requires-clause-fit g c κs within =
    let P : List (NameWork _ _ _ _ _) → Type 0 = λ list. SeatsFit g.N.NameCalls c.args.hall.names list in
    subst P (sym c.as_slice-name_works.ensures) (record {
      few = few_name_works g.N.NameCalls c.args.trace.now c.args.hall.names c.args.hall.zones c.args.hall.clock c.args.hall.workers c.args.hall.name_works c.requires.can.valid c.requires.can.named;
      seats = are_seats g.N.NameCalls c.args.trace.now c.args.hall.names c.args.hall.zones c.args.hall.clock c.args.hall.workers c.args.hall.name_works c.requires.can.done c.requires.can.named;
    })

pub whole_report-requires-clause-counts : goal.whole_report-requires-clause-counts
whole_report-requires-clause-counts g c κs within =
    let P : List (NameWork _ _ _ _ _) → Type 0 = λ list. CountsFit list in
    subst P (sym c.as_slice-name_works.ensures) (fit_counts g.N.NameCalls c.args.trace.now c.args.hall.names c.args.hall.zones c.args.hall.clock c.args.hall.workers c.args.hall.name_works c.requires.can.valid c.requires.can.few c.requires.can.done c.requires.can.named)

pub returns : goal.returns
returns g c =
    let names = g.N.NameCalls in
    let head = c.args.trace.now.head in
    let stock = c.args.stock in
    let first = c.in_ok-first.first in
    let made = c.in_ok-first.ensures in
    let whole = c.in_ok-report.ensures in
    let shown : c.in_ok-report.report.gave_up ≡ sum c.args.hall.gave_ups =
    whole_waits names c.args.hall.names _ first c.in_ok-report.report head.names whole ∙ (made.waits ∙ (c.all_gave_up-gave_up.ensures ∙ ap sum c.as_slice.ensures)) in
    let A : List Census → Type 0 = λ censuses. AllClose head c.args.hall.zones c.args.hall.workers censuses stock.totals.tallies.items stock.totals.deferred.items in
    let B : ℕ → Type 0 = λ n. IsReportOf c.args.trace.now c.args.hall.workers stock.totals.censuses.items stock.totals.tallies.items stock.totals.deferred.items stock.read stock.write n first in
    let F : List Census → Type 0 = λ censuses. IsReportOf c.args.trace.now c.args.hall.workers censuses stock.totals.tallies.items stock.totals.deferred.items stock.read stock.write first.gave_up first in
    let G : List (NameWork _ _ _ _ _) → Type 0 = λ name_works. IsWhole names c.args.hall.names head.names name_works first c.in_ok-report.report in
    record {
      hall = record {
        done = c.requires.can.done;
        named = c.requires.can.named;
        ended = c.requires.can.ended;
        gave_up = shown;
        tallies = stock.totals.tallies.items;
        deferred = stock.totals.deferred.items;
        closes = subst A (sym c.from_vec.ensures) c.requires.closes;
        read = stock.read;
        write = stock.write;
        hands = c.requires.hands;
        first = first;
        made_of = subst F (sym c.from_vec.ensures) (subst B (sym made.waits) made);
        whole = subst G c.as_slice-name_works.ensures whole;
      };
      clock = refl;
      gave_up = shown;
      gave_ups = refl;
    }
