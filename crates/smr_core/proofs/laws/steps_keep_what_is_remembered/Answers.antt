use Rattle.smr_core.proofs.Keeps.Memory.{begins-remembering, write_look-remembers, read_look-remembers, enter_load-remembers, enter_store-remembers, enter_check-remembers, clear-remembers, leave-remembers, come-remembers, advance_read-remembers, advance_load-remembers, advance_swap-remembers, poll_read-remembers, poll_load-remembers, poll_present-remembers, poll_scan-remembers, poll_swap-remembers, note-remembers, worker-remembers, join-remembers}
use Rattle.smr_core.proofs.laws.steps_keep_what_is_remembered.Goals as goal

pub returns : goal.returns
returns c =
    record {
      begins = begins-remembering;
      write_look = write_look-remembers;
      read_look = read_look-remembers;
      enter_load = enter_load-remembers;
      enter_store = enter_store-remembers;
      enter_check = enter_check-remembers;
      clear = clear-remembers;
      leave = leave-remembers;
      come = come-remembers;
      advance_read = advance_read-remembers;
      advance_load = advance_load-remembers;
      advance_swap = advance_swap-remembers;
      poll_read = poll_read-remembers;
      poll_load = poll_load-remembers;
      poll_present = poll_present-remembers;
      poll_scan = poll_scan-remembers;
      poll_swap = poll_swap-remembers;
      note = note-remembers;
      worker = worker-remembers;
      join = join-remembers;
    }
