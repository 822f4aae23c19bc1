-- In each arm the step is that of the function called.
use Rattle.smr_core.proofs.steps.Works.apply.Goals as goal

pub returns-in-EnterLoad : goal.returns-in-EnterLoad
returns-in-EnterLoad c = rw c.in-EnterLoad.is c.enter_load.ensures

pub returns-in-EnterStore : goal.returns-in-EnterStore
returns-in-EnterStore c = rw c.in-EnterStore.is c.enter_store.ensures

pub returns-in-EnterCheck : goal.returns-in-EnterCheck
returns-in-EnterCheck c = rw c.in-EnterCheck.is c.enter_check.ensures

pub returns-in-Clear : goal.returns-in-Clear
returns-in-Clear c = rw c.in-Clear.is c.clear.ensures

pub returns-in-Leave : goal.returns-in-Leave
returns-in-Leave c = rw c.in-Leave.is c.leave.ensures

pub returns-in-Come : goal.returns-in-Come
returns-in-Come c = rw c.in-Come.is c.come.ensures

pub returns-in-AdvanceRead : goal.returns-in-AdvanceRead
returns-in-AdvanceRead c = rw c.in-AdvanceRead.is c.advance_read.ensures

pub returns-in-AdvanceLoad : goal.returns-in-AdvanceLoad
returns-in-AdvanceLoad c = rw c.in-AdvanceLoad.is c.advance_load.ensures

pub returns-in-AdvanceSwap : goal.returns-in-AdvanceSwap
returns-in-AdvanceSwap c = rw c.in-AdvanceSwap.is c.advance_swap.ensures

pub returns-in-PollRead : goal.returns-in-PollRead
returns-in-PollRead c = rw c.in-PollRead.is c.poll_read.ensures

pub returns-in-PollLoad : goal.returns-in-PollLoad
returns-in-PollLoad c = rw c.in-PollLoad.is c.poll_load.ensures

pub returns-in-PollPresent : goal.returns-in-PollPresent
returns-in-PollPresent c = rw c.in-PollPresent.is c.poll_present.ensures

pub returns-in-PollScan : goal.returns-in-PollScan
returns-in-PollScan c = rw c.in-PollScan.is c.poll_scan.ensures

pub returns-in-PollSwap : goal.returns-in-PollSwap
returns-in-PollSwap c = rw c.in-PollSwap.is c.poll_swap.ensures

pub returns-in-Note : goal.returns-in-Note
returns-in-Note c = rw c.in-Note.is c.note.ensures

pub returns-in-Absorb : goal.returns-in-Absorb
returns-in-Absorb c = rw c.in-Absorb.is c.absorb.ensures
