use Rattle.smr_core.proofs.OpeningLemmas.{begins-lawful}
use Rattle.smr_core.proofs.Keeps.Looks.{write_look-keeps, read_look-keeps}
use Rattle.smr_core.proofs.Keeps.EnterLoad.{enter_load-keeps}
use Rattle.smr_core.proofs.Keeps.EnterCheck.{enter_check-keeps}
use Rattle.smr_core.proofs.Keeps.Stores.{enter_store-keeps, clear-keeps}
use Rattle.smr_core.proofs.Keeps.AdvanceLoads.{advance_read-keeps, advance_load-keeps}
use Rattle.smr_core.proofs.Keeps.PollLoads.{poll_read-keeps, poll_load-keeps, poll_end-keeps, poll_present-keeps}
use Rattle.smr_core.proofs.Keeps.Presences.{leave-keeps, come-keeps}
use Rattle.smr_core.proofs.Keeps.PollScan.{poll_scan-keeps}
use Rattle.smr_core.proofs.Keeps.Swaps.{advance_swap-keeps, poll_swap-keeps}
use Rattle.smr_core.proofs.Keeps.Splits.{note-keeps, worker-keeps}
use Rattle.smr_core.proofs.Keeps.Joins.{join-keeps}
use Rattle.smr_core.proofs.Keeps.OtherWords.{other_word-keeps}
use Rattle.smr_core.proofs.laws.steps_keep_the_law.Goals as goal

pub returns : goal.returns
returns c =
    record {
      begins = begins-lawful;
      write_look = write_look-keeps;
      read_look = read_look-keeps;
      enter_load = enter_load-keeps;
      enter_store = enter_store-keeps;
      enter_check = enter_check-keeps;
      clear = clear-keeps;
      leave = leave-keeps;
      come = come-keeps;
      advance_read = advance_read-keeps;
      advance_load = advance_load-keeps;
      advance_swap = advance_swap-keeps;
      poll_read = poll_read-keeps;
      poll_load = poll_load-keeps;
      poll_end = poll_end-keeps;
      poll_present = poll_present-keeps;
      poll_scan = poll_scan-keeps;
      poll_swap = poll_swap-keeps;
      note = note-keeps;
      worker = worker-keeps;
      join = join-keeps;
      other_word = other_word-keeps;
    }
