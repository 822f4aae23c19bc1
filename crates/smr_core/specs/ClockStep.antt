-- What each step of the clock does to the word that it acts on and to the holder that takes it, as functions of the value that the step finds in that word.
-- Enter, exit, advance and poll are those of FreeBSD's smr(9). The second load of an enter, the window, the one exchange of an advance, and that seats leave and come are own.
use Rattle.std.specs.Prelude.{◌<◌, ◌≤◌, ℕ, ◌+◌, ◌-◌, ◌^◌, ◌==◌, nat_lt, nat_le, min, max, if◌then◌else◌, Bool, Option, Some, None}
use Rattle.smr_seq.specs.Reading.{low, reading}
use Rattle.std.specs.Int.Bits.{bit_and, bit_or}
use Rattle.smr_core.specs.declared.clock_core.ClockConfig.{ClockConfig}
use Rattle.smr_core.specs.declared.holder.Holder.{Holder}
use Rattle.smr_core.specs.declared.holder.Phase.TheVariants as phase
use Rattle.smr_core.specs.declared.holder.Task.TheVariants as task
use Rattle.smr_core.specs.ClockState.{next_present}

-- ---- what a word becomes of what was found in it

-- a load leaves it
abbrev pub same : ℕ → ℕ
same found = found

-- a store writes over it
abbrev pub stored : ℕ → ℕ → ℕ
stored value found = value

-- a compare-exchange from old to new writes only where it finds old
abbrev pub exchanged : ℕ → ℕ → ℕ → ℕ
exchanged old new found = if found == old then new else found

-- a fetch-and takes the seat s out of a set of seats
abbrev pub without : ℕ → ℕ → ℕ
without s found = bit_and found (2 ^ 64 - 1 - 2 ^ s)

-- a fetch-or puts it in
abbrev pub with_seat : ℕ → ℕ → ℕ
with_seat s found = bit_or found (2 ^ s)

-- ---- what every load of a hand teaches

-- Of the write sequence: it is seen, and the read sequence is at most the window below it.
abbrev pub write_loaded : ClockConfig → Holder → ℕ → Holder
write_loaded a h found = record h { seen = max h.seen found; floor = max h.floor (found - a.window) }

-- Of the read sequence: it is at least what was found.
abbrev pub read_loaded : Holder → ℕ → Holder
read_loaded h found = record h { floor = max h.floor found }

-- ---- enter and exit

-- the first step of an enter, a load of the write sequence
abbrev pub enter_loaded : ClockConfig → Holder → ℕ → Holder
enter_loaded a h found = record (write_loaded a h found) { phase = phase.Loaded; loaded = found }

-- the second step, a store in one's own word
abbrev pub entry_word : Holder → ℕ
entry_word h = low h.loaded

abbrev pub enter_stored : Holder → Holder
enter_stored h = record h { phase = phase.Stored }

-- The write sequence moved on by the window or more: an enter that finds this is too late.
abbrev pub is_overtaken : ClockConfig → ℕ → ℕ → Bool
is_overtaken a loaded found = nat_le a.window (found - loaded)

-- The third step, a load of the write sequence again. What it finds is the entry mark.
abbrev pub enter_checked : ClockConfig → Holder → ℕ → Holder
enter_checked a h found =
    record (write_loaded a h found) {
      phase = (if is_overtaken a h.loaded found then phase.Late else phase.Inside);
      mark = found;
    }

-- exit, a store of 0 in one's own word
abbrev pub cleared : Holder → Holder
cleared h = record h { phase = phase.Outside }

-- ---- leave and come

-- The worker takes its own bit out of the presence word, and its seat is vacant.
abbrev pub left : Holder → Holder
left h = record h { phase = phase.Vacant }

-- The vacancy puts its bit in, and is the worker of its seat again. It knows of the sequences what it knew.
abbrev pub came : Holder → Holder
came h = record h { phase = phase.Outside }

-- ---- advance

-- a load of the read sequence
abbrev pub advance_read : Holder → ℕ → Holder
advance_read h found = record (read_loaded h found) { task = task.AdvRead; read = found }

-- two more than the write sequence would be past the end of its range
abbrev pub is_spent : ℕ → Bool
is_spent write = nat_le (2 ^ 63) (write + 2)

-- two more than the write sequence would be above the read sequence by more than the window
abbrev pub is_too_far : ClockConfig → ℕ → ℕ → Bool
is_too_far a read write = nat_lt a.window (write + 2 - read)

-- a load of the write sequence after which the advance ends
abbrev pub advance_ended : ClockConfig → Holder → ℕ → Holder
advance_ended a h found = record (write_loaded a h found) { task = task.Idle }

-- A load of the write sequence. The advance goes on only where there is room for two more.
abbrev pub advance_loaded : ClockConfig → Holder → ℕ → Holder
advance_loaded a h found =
    if is_spent found then advance_ended a h found else
    if is_too_far a h.read found then advance_ended a h found else
    record (write_loaded a h found) { task = task.AdvLoaded; write = found }

-- A compare-exchange of the write sequence, from what was loaded to two more. It moved the hand exactly where it found what was loaded.
abbrev pub goal_of : Holder → ℕ
goal_of h = h.write + 2

-- there is room for the goal, and for one advance more
pub record MaySwap (h : Holder) : Type 0 where
  pub write : h.write < 2 ^ 63
  pub advances : h.advances < 2 ^ 63

abbrev pub advance_swapped : Holder → ℕ → Holder
advance_swapped h found =
    record h {
      task = task.Idle;
      seen = max h.seen (exchanged h.write (goal_of h) found);
      advances = h.advances + (if found == h.write then 1 else 0);
    }

-- ---- poll

-- a load of the read sequence
abbrev pub poll_read : Holder → ℕ → Holder
poll_read h found = record (read_loaded h found) { task = task.PollRead; read = found }

-- a load of the write sequence
abbrev pub poll_loaded : ClockConfig → Holder → ℕ → Holder
poll_loaded a h found = record (write_loaded a h found) { task = task.PollLoaded; write = found }

-- A load of the write sequence that ends the poll, since the read sequence that it has is not below the goal.
abbrev pub poll_ended : ClockConfig → Holder → ℕ → Holder
poll_ended a h found = record (write_loaded a h found) { task = task.Idle }

-- A load of the presence word: whose words the poll will load. None is loaded yet, and the least mark so far is the write sequence itself.
abbrev pub poll_present : ClockConfig → Holder → ℕ → Holder
poll_present a h found = record h { task = task.Scanning; present = found; scanned = next_present a found 0; least = h.write }

-- The least mark, with a seat's word that has this reading: an enter that is older than the read sequence counts as one at the read sequence.
abbrev pub least_with : ℕ → ℕ → Option ℕ → ℕ
least_with read least None = least
least_with read least (Some entered) = min least (max entered read)

-- The least mark after a seat's word was loaded. A word of 0, and one without a reading near the write sequence loaded, count for nothing.
abbrev pub least_after : ℕ → ℕ → ℕ → ℕ → ℕ
least_after read write least word = if word == 0 then least else least_with read least (reading word write)

-- the seats are few, and the next number fits
pub record MayScan (a : ClockConfig) (h : Holder) : Type 0 where
  pub few : a.seats ≤ 64
  pub within : h.scanned < 2 ^ 31

-- a load of the word of the seat that is next in the set
abbrev pub poll_scanned : ClockConfig → Holder → ℕ → Holder
poll_scanned a h found =
    record h {
      scanned = next_present a h.present (h.scanned + 1);
      least = least_after h.read h.write h.least found;
    }

-- A compare-exchange of the read sequence, from what was loaded to the least mark. What it leaves is the read sequence last found.
abbrev pub last_found : Holder → ℕ → ℕ
last_found h found = exchanged h.read h.least found

abbrev pub poll_swapped : Holder → ℕ → Holder
poll_swapped h found = record h { task = task.Idle; floor = max h.floor (last_found h found) }

-- ---- notes and seats

-- The new holder that a note splits off. It knows what the other knows of the sequences.
abbrev pub note_of : Holder → Holder
note_of h =
    record {
      seat = None;
      phase = phase.Note;
      loaded = 0;
      mark = 0;
      task = task.Idle;
      read = 0;
      write = 0;
      present = 0;
      scanned = 0;
      least = 0;
      seen = h.seen;
      floor = h.floor;
      advances = 0;
    }

-- the worker of the seat s, split off where a clock is made
abbrev pub worker_of : ℕ → Holder → Holder
worker_of s h = record (note_of h) { seat = Some s; phase = phase.Outside }

-- a holder that takes in another
abbrev pub joined : Holder → Holder → Holder
joined h other = record h { seen = max h.seen other.seen; floor = max h.floor other.floor }
