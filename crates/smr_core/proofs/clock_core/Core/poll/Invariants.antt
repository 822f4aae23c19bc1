-- So far: the steps are a run from where the turn began, the poll has loaded the words of the seats of its set below this number, and there is room for the rest.
use Rattle.std.proofs.Common.{◌≡◌, ◌+◌, ◌≤◌, vec_len, vec_capacity}
use Rattle.smr_core.specs.ClockState.{next_present, seats_below}
use Rattle.smr_core.specs.CoreStep.{Run}
use Rattle.smr_core.specs.Turns.{Scans}
use Rattle.smr_core.proofs.TurnLemmas.{HasBegun, poll_so_far}
use Rattle.smr_core.proofs.clock_core.Core.poll.Given as goal

abbrev pub invariant-loop-number : goal.invariant-loop-number
invariant-loop-number l =
    record {
      run : Run l.fn.self (poll_so_far l.seat l.tag (seats_below l.set l.number)) l.sees.items l.self;
      scans : Scans l.self l.seat l.set (next_present l.self.config l.set l.number);
      config : l.self.config ≡ l.fn.self.config;
      begun : HasBegun l.set l.sees.items;
      count : vec_len l.sees ≤ l.number + 3;
      room : l.seats + 4 ≤ vec_capacity l.sees;
    }
