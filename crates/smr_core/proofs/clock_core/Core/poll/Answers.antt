-- Each step but the first is sure, and together they are the turn.
use Rattle.std.proofs.Common.{rules, ◌≡◌, true, arith, ap, ◌∙◌, ◌++◌, ◌∷◌, [], List, sym, subst, subst₂, ◌+◌, ◌<◌, ℕ, suc}
use Rattle.smr_core.specs.declared.clock_core.ClockConfig.{ClockConfig}
use Rattle.smr_core.specs.declared.turns.Seen.{Seen}
use Rattle.smr_core.specs.declared.turns.Step.TheVariants.{PollRead, PollLoad, PollPresent}
use Rattle.smr_core.specs.declared.turns.Turn.TheVariants.{Poll}
use Rattle.smr_core.specs.ClockState.{next_present, seats_below}
use Rattle.smr_core.specs.CoreState.{State}
use Rattle.smr_core.specs.CoreStep.{Run}
use Rattle.smr_core.specs.Turns.{IsTurn, Scans, is_hand}
use Rattle.smr_core.proofs.PresenceLemmas.{is-present, is-absent, seats_below-more, seats_below-same, next-at, next-past, next-at-end}
use Rattle.smr_core.proofs.TurnLemmas.{poll_load-sure, present-sure, scans-first, scans-next, scan-sure, swap-sure, scan-config, run-three, run-scan, HasBegun, begun-stays, poll_so_far, poll-whole}
use Rattle.smr_core.proofs.clock_core.Core.poll.Goals as goal
use Rattle.smr_core.proofs.clock_core.Core.poll.Goals.{then-is_present, else-is_present}

pub take-loaded-requires : goal.take-loaded-requires
take-loaded-requires c = poll_load-sure c.args.self.now c.args.seat c.args.tag c.in_ok-read.read c.apply.new.self c.in_ok-read.ensures.step.stepped

pub take-found-requires : goal.take-found-requires
take-found-requires c =
    present-sure c.apply.new.self c.args.seat c.take-loaded.result c.take-loaded.new.self c.take-loaded.ensures.stepped (search rules)

after : List Seen → Seen → List Seen
after sees saw = sees ++ saw ∷ []

pub loop-number-init : goal.loop-number-init
unfolding after
loop-number-init c =
    let hand : is_hand c.take-loaded.result ≡ true = search rules in
    let one = c.push_reserved.ensures.items ∙ ap (λ (l : List Seen). after l c.in_ok-read.read) c.in_ok-sees.ensures.room.empty in
    let two = c.push_reserved-2.ensures.items ∙ ap (λ (l : List Seen). after l c.take-loaded.result) one in
    let three = c.push_reserved-3.ensures.items ∙ ap (λ (l : List Seen). after l c.take-found.result) two in
    let config : c.take-found.new.self.config ≡ c.take-loaded.new.self.config = ap (λ (t : State). t.config) c.take-found.ensures.stepped.after in
    let first = scans-first c.take-loaded.new.self c.args.seat c.take-found.result c.take-found.new.self c.take-found.ensures.stepped in
    record {
      run =
          subst (λ (l : List Seen). Run c.args.self.now (PollRead c.args.seat c.args.tag ∷ PollLoad c.args.seat ∷ PollPresent c.args.seat ∷ []) l c.take-found.new.self) (sym three)
          (run-three c.args.self.now c.apply.new.self c.take-loaded.new.self c.take-found.new.self (PollRead c.args.seat c.args.tag) (PollLoad c.args.seat) (PollPresent c.args.seat)
          c.in_ok-read.read c.take-loaded.result c.take-found.result c.in_ok-read.ensures.step.stepped c.take-loaded.ensures.stepped c.take-found.ensures.stepped);
      scans =
          subst₂ (λ (a : ClockConfig) (set : ℕ). Scans c.take-found.new.self c.args.seat set (next_present a set 0)) (sym config) (sym c.set-set.ensures) first;
      config = config ∙ ap (λ (t : State). t.config) c.take-loaded.ensures.stepped.after ∙ ap (λ (t : State). t.config) c.in_ok-read.ensures.step.stepped.after;
      begun = subst (λ (l : List Seen). HasBegun c.set-set.result l) (sym three) (hand, sym c.set-set.ensures);
      count = omega (arith, c.push_reserved-3.ensures.len, c.push_reserved-2.ensures.len, c.push_reserved.ensures.len, c.in_ok-sees.ensures.room.len);
      room = omega (arith, c.push_reserved-3.ensures.capacity, c.push_reserved-2.ensures.capacity, c.push_reserved.ensures.capacity, c.in_ok-sees.ensures.room.room, c.seats-seats.ensures.value);
    }

pub take-word-requires : goal.take-word-requires
take-word-requires c =
    let n : ℕ = c.loop-number.number in
    let at = c.loop-number.invariant in
    let seats : c.loop-number.self.config.seats ≡ c.seats-seats.result = ap (λ (a : ClockConfig). a.seats) at.config ∙ sym c.seats-seats.ensures.value in
    let below : c.loop-number.number < c.loop-number.self.config.seats = omega (arith, c.loop-number-test.true) in
    let there = is-present c.set-set.result c.loop-number.number (sym c.is_present.ensures ∙ c.if-is_present.true) in
    let here = next-at c.loop-number.self.config c.set-set.result c.loop-number.number below there in
    scan-sure c.loop-number.self c.args.seat c.set-set.result (next_present c.loop-number.self.config c.set-set.result c.loop-number.number) at.scans (omega arith)

pub loop-number-preserved : goal.loop-number-preserved
loop-number-preserved c =
    let n : ℕ = c.loop-number.number in
    let at = c.loop-number.invariant in
    let seats : c.loop-number.self.config.seats ≡ c.seats-seats.result = ap (λ (a : ClockConfig). a.seats) at.config ∙ sym c.seats-seats.ensures.value in
    let below : c.loop-number.number < c.loop-number.self.config.seats = omega (arith, c.loop-number-test.true) in
    let next : c.loop-number.number + 1 ≡ suc c.loop-number.number = omega arith in
    elim c.if-is_present.branch [
      | then-is_present w ↦
          let there = is-present c.set-set.result c.loop-number.number (sym c.is_present.ensures ∙ w.if-is_present.true) in
          let here = next-at c.loop-number.self.config c.set-set.result c.loop-number.number below there in
          let more = ap (seats_below c.set-set.result) next ∙ seats_below-more c.set-set.result c.loop-number.number there in
          let config = scan-config c.loop-number.self c.args.seat w.take-word.result w.take-word.new.self w.take-word.ensures.stepped in
          let scans = scans-next c.loop-number.self c.args.seat c.set-set.result c.loop-number.number w.take-word.result w.take-word.new.self
          (subst (λ (k : ℕ). Scans c.loop-number.self c.args.seat c.set-set.result k) here at.scans) w.take-word.ensures.stepped in
          let run = run-scan c.args.self.now c.loop-number.self w.take-word.new.self c.args.seat c.args.tag c.loop-number.number (seats_below c.set-set.result c.loop-number.number)
          c.loop-number.sees.items w.take-word.result at.run w.take-word.ensures.stepped in
          rw (w.self-is, w.sees-is) (record {
            run = subst₂ (λ (l : List ℕ) (m : List Seen). Run c.args.self.now (poll_so_far c.args.seat c.args.tag l) m w.take-word.new.self) (sym more) (sym w.push_reserved-then-is_present.ensures.items) run;
            scans = subst (λ (a : ClockConfig). Scans w.take-word.new.self c.args.seat c.set-set.result (next_present a c.set-set.result (c.loop-number.number + 1))) (sym config) scans;
            config = config ∙ at.config;
            begun = subst (λ (l : List Seen). HasBegun c.set-set.result l) (sym w.push_reserved-then-is_present.ensures.items) (begun-stays c.set-set.result c.loop-number.sees.items w.take-word.result at.begun);
            count = omega (arith, w.push_reserved-then-is_present.ensures.len, at.count);
            room = omega (arith, w.push_reserved-then-is_present.ensures.capacity, at.room);
          })
      | else-is_present w ↦
          let none = is-absent c.set-set.result c.loop-number.number (sym c.is_present.ensures ∙ w.if-is_present.false) in
          let same = ap (seats_below c.set-set.result) next ∙ seats_below-same c.set-set.result c.loop-number.number none in
          let past = next-past c.loop-number.self.config c.set-set.result c.loop-number.number below none in
          rw (w.self-is, w.sees-is) (record {
            run = subst (λ (l : List ℕ). Run c.args.self.now (poll_so_far c.args.seat c.args.tag l) c.loop-number.sees.items c.loop-number.self) (sym same) at.run;
            scans = subst (λ (k : ℕ). Scans c.loop-number.self c.args.seat c.set-set.result k) past at.scans;
            config = at.config;
            begun = at.begun;
            count = omega (arith, at.count);
            room = at.room;
          })
    ]

pub take-swapped-requires : goal.take-swapped-requires
take-swapped-requires c =
    let at = c.loop-number.invariant in
    let seats : c.loop-number.self.config.seats ≡ c.seats-seats.result = ap (λ (a : ClockConfig). a.seats) at.config ∙ sym c.seats-seats.ensures.value in
    let end : c.loop-number.number ≡ c.loop-number.self.config.seats = omega (arith, c.loop-number-test.false, c.loop-number.auto.number-end) in
    swap-sure c.loop-number.self c.args.seat c.set-set.result (next_present c.loop-number.self.config c.set-set.result c.loop-number.number) at.scans
    (next-at-end c.loop-number.self.config c.set-set.result c.loop-number.number (omega arith) ∙ end)

pub returns : goal.returns
returns c =
    let at = c.loop-number.invariant in
    let end : c.loop-number.number ≡ c.args.self.now.config.seats = omega (arith, c.seats-seats.ensures.value, c.loop-number-test.false, c.loop-number.auto.number-end) in
    record {
      taken =
          subst (λ (l : List Seen). IsTurn c.args.self.now (Poll c.args.seat c.args.tag) l c.take-swapped.new.self) (sym (c.from_vec-2.ensures ∙ c.push_reserved-4.ensures.items))
          (poll-whole c.args.self.now c.loop-number.self c.take-swapped.new.self c.args.seat c.args.tag c.set-set.result c.loop-number.number c.loop-number.sees.items c.take-swapped.result
          at.run end at.begun c.take-swapped.ensures.stepped);
      refused = search rules;
      unchanged = search rules;
      law = search rules;
    }
