use Rattle.std.proofs.Common.{◌≡◌, ◌∙◌, ◌++◌, ℕ, List, ap, drop, length, subst, sum, sym, take}
use Rattle.std.proofs.lemmas.Result.{IfOk-weaker}
use Rattle.std.specs.Prelude.{IsTrue}
use Rattle.smr_clock.specs.Belongs.{clock_id, setup_of}
use Rattle.replay_worker.specs.declared.worker_run.WorkerRun.{WorkerRun}
use Rattle.replay_worker.specs.Attendance.{worker_in}
use Rattle.replay_worker.specs.Items.{CountedZone}
use Rattle.replay_worker.specs.Together.{crew}
use Rattle.replay_rounds.specs.Rounds.{FitsTrace, GaveUpAsBefore, IsBegun}
use Rattle.replay_rounds.proofs.AfterRound.{in_crew}
use Rattle.uma_replay.specs.declared.hall.Played.{Played}
use Rattle.uma_replay.specs.Asked.{AreGivenUp}
use Rattle.uma_replay.specs.Ending.{IsEndOf}
use Rattle.uma_replay.specs.Hall.{AreDone, NamesDone}
use Rattle.uma_replay.specs.Replaying.{HasReplayed}
use Rattle.uma_replay.proofs.Asked.{given_up}
use Rattle.uma_replay.proofs.Beginning.{begun_of, done_of, few_workers, named_of, none_gave_up, served_domains, suits_of, written_back}
use Rattle.uma_replay.proofs.ComingBack.{back_stay}
use Rattle.uma_replay.proofs.HallOf.{done_stay, stands_of_hall}
use Rattle.uma_replay.proofs.Headline.{headline_of}
use Rattle.uma_replay.proofs.Playing.{ended_of, played_back}
use Rattle.uma_replay.proofs.hall.replay.Goals as goal

pub begin-requires-clause-few : goal.begin-requires-clause-few
begin-requires-clause-few g c κs within = few_workers c.args.trace.now c.in_ok-setting.setting c.requires.valid c.in_ok-setting.ensures.set_up

pub begin-requires-clause-served : goal.begin-requires-clause-served
begin-requires-clause-served g c κs within = served_domains g.N.NameCalls c.in_ok-cache.cache c.args.trace.now c.requires.serves c.in_ok-cache.ensures.sizes

pub play-requires-clause-suits : goal.play-requires-clause-suits
play-requires-clause-suits g c κs within =
    let t = c.args.trace.now in
    let s = c.in_ok-setting.setting in
    let P : List (CountedZone _ _ _) → Type 0 = λ zones. FitsTrace g.N.NameCalls c.in_ok-cache.cache t zones s.clock c.as_mut_slice.result.now in
    let Q : List (WorkerRun _ _ _ _ _ _) → Type 0 = λ workers. FitsTrace g.N.NameCalls c.in_ok-cache.cache t s.zones.items s.clock workers in
    let of_clock : IsTrue g.N.NameCalls.serves → g.N.NameCalls.clock_of c.in_ok-cache.cache ≡ clock_id s.clock = λ serves. c.in_ok-cache.ensures.of_clock serves ∙ ap clock_id (sym c.in_ok-setting.ensures.clock) in
    subst P (sym c.as_slice.ensures.value)
    (subst Q (sym c.as_mut_slice.ensures.value)
    (suits_of g.N.NameCalls c.in_ok-cache.cache t s c.in_ok-runs.runs.items c.requires.valid c.requires.serves c.requires.few c.in_ok-setting.ensures.set_up of_clock c.in_ok-runs.ensures))

pub play-requires-clause-begun : goal.play-requires-clause-begun
play-requires-clause-begun g c κs within =
    let s = c.in_ok-setting.setting in
    let P : List (CountedZone _ _ _) → Type 0 = λ zones. IsBegun g.N.NameCalls c.in_ok-cache.cache zones s.clock c.as_mut_slice.result.now in
    let Q : List (WorkerRun _ _ _ _ _ _) → Type 0 = λ workers. IsBegun g.N.NameCalls c.in_ok-cache.cache s.zones.items s.clock workers in
    subst P (sym c.as_slice.ensures.value)
    (subst Q (sym c.as_mut_slice.ensures.value) (begun_of g.N.NameCalls c.in_ok-cache.cache c.args.trace.now s c.in_ok-runs.runs.items c.in_ok-setting.ensures.set_up c.in_ok-runs.ensures))

pub dismiss-requires-clause-here : goal.dismiss-requires-clause-here
dismiss-requires-clause-here g c κs within = λ n r at.
    let s = c.in_ok-setting.setting in
    let old = c.in_ok-runs.runs in
    let new = c.play.new.workers in
    let same = written_back new old.items old.len old.ok.0 (c.play.ensures.count ∙ ap length c.as_mut_slice.ensures.value) in
    let played = played_back g.N.NameCalls c.in_ok-cache.cache g.G.Gate c.args.gate.now c.args.trace.now s.clock _ s.zones.items _ old.items new _ c.as_slice.ensures.value c.as_mut_slice.ensures.value same c.in_ok-play.ensures.played in
    (played.stands.fits n (worker_in r) (in_crew n _ r at)).pass

pub close-requires-clause-can : goal.close-requires-clause-can
close-requires-clause-can g c κs within =
    let names = g.N.NameCalls in
    let t = c.args.trace.now in
    let s = c.in_ok-setting.setting in
    let cache = c.in_ok-cache.cache in
    let old = c.in_ok-runs.runs in
    let new = c.play.new.workers in
    let workers = c.in_ok-workers.workers in
    let name_works = c.in_ok-workers.name_works in
    let back = take old.len (new ++ drop (length new) old.items) in
    let count = c.play.ensures.count ∙ ap length c.as_mut_slice.ensures.value in
    let same = written_back new old.items old.len old.ok.0 count in
    let of_clock : IsTrue g.N.NameCalls.serves → g.N.NameCalls.clock_of c.in_ok-cache.cache ≡ clock_id s.clock = λ serves. c.in_ok-cache.ensures.of_clock serves ∙ ap clock_id (sym c.in_ok-setting.ensures.clock) in
    let played = played_back names cache g.G.Gate c.args.gate.now t s.clock _ s.zones.items _ old.items new back c.as_slice.ensures.value c.as_mut_slice.ensures.value same c.in_ok-play.ensures.played in
    let D : List (CountedZone _ _ _) → Type 0 = λ zones. AreDone t zones s.clock workers in
    let N : List (CountedZone _ _ _) → Type 0 = λ zones. NamesDone names t cache zones s.clock workers name_works in
    record {
      valid = c.requires.valid;
      few = c.requires.few;
      done = subst D (sym c.from_vec.ensures) (done_stay t s.zones.items s.clock (crew back) workers (back_stay s.clock (crew back) workers c.in_ok-workers.ensures.workers)
          (done_of names cache t s old.items back c.in_ok-setting.ensures.set_up c.in_ok-runs.ensures (ap length same ∙ count) played.stands played.adds_up));
      named = subst N (sym c.from_vec.ensures) (named_of names cache t s old.items back workers name_works c.in_ok-setting.ensures.set_up c.in_ok-runs.ensures (ap length same ∙ count)
          c.requires.serves of_clock c.in_ok-cache.ensures.sizes played.stands played.named played.rounds c.in_ok-workers.ensures.workers c.in_ok-workers.ensures.name_works);
      ended = ended_of t s.clock back workers name_works c.in_ok-workers.gave_ups
          played.asked c.in_ok-workers.ensures.workers c.in_ok-workers.ensures.name_works c.in_ok-workers.ensures.gave_ups;
    }

pub returns : goal.returns
returns g c =
    let names = g.N.NameCalls in
    let t = c.args.trace.now in
    let s = c.in_ok-setting.setting in
    let cache = c.in_ok-cache.cache in
    let gate = c.args.gate.now in
    let old = c.in_ok-runs.runs in
    let new = c.play.new.workers in
    let counts = c.in_ok-workers.gave_ups in
    let back = take old.len (new ++ drop (length new) old.items) in
    let count = c.play.ensures.count ∙ ap length c.as_mut_slice.ensures.value in
    let same = written_back new old.items old.len old.ok.0 count in
    let played = played_back names cache g.G.Gate gate t s.clock _ s.zones.items _ old.items new back c.as_slice.ensures.value c.as_mut_slice.ensures.value same c.in_ok-play.ensures.played in
    let given = given_up g.G.Gate gate t.rounds old.items back counts (ap length same ∙ count) (λ n r at. ((c.in_ok-runs.ensures.each n r at).asked, (c.in_ok-runs.ensures.each n r at).gave_up)) played.asks
    c.in_ok-workers.ensures.gave_ups in
    let F : List (WorkerRun _ _ _ _ _ _) → Type 0 = λ list. GaveUpAsBefore list new in
    let B : List (WorkerRun _ _ _ _ _ _) → Type 0 = λ list. GaveUpAsBefore old.items list in
    let none : g.G.Gate.is_free gate → sum counts ≡ 0 = λ free.
    ap sum c.in_ok-workers.ensures.gave_ups ∙ none_gave_up old.items back (λ n r at. (c.in_ok-runs.ensures.each n r at).gave_up) (subst B (sym same) (subst F c.as_mut_slice.ensures.value (c.in_ok-play.ensures.free free))) in
    let P : List ℕ → Type 0 = λ list. AreGivenUp g.G.Gate gate t.rounds list in
    IfOk-weaker c.close.result (λ (p : Played _ _ _ _ _ _). IsEndOf names t s.clock counts p) (λ (p : Played _ _ _ _ _ _). HasReplayed names g.G.Gate gate t p)
    (λ p end.
    let stands = stands_of_hall names t p.report p.hall c.requires.valid end.hall in
    record {
      stands = stands;
      hall = end.hall;
      headline = headline_of names t p.report p.hall stands end.hall;
      plan = ap (λ clock. (setup_of clock).plan) (end.clock ∙ c.in_ok-setting.ensures.clock) ∙ c.in_ok-cache.ensures.plan;
      free = λ free. end.gave_up ∙ none free;
      asks = subst P (sym end.gave_ups) given;
    }) c.close.ensures
