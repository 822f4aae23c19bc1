-- The law of the clock, over its numbers, its words and its holders. It holds between any two steps.
-- Its parts:
--   1. The sequences are odd and in range, the read sequence is at most the write sequence, and the window is not exceeded.
--   2. A seat number has one holder, a worker or a vacancy, and its bit in the presence word is set exactly where that is a worker. Its word is 0, and while its worker's enter
--      is stored, the low half of what that enter loaded, which is odd.
--   3. An enter that has loaded, or that is late, has a write sequence that was.
--   4. A section has been entered within the window of what its enter loaded, and the read sequence is at most its entry mark.
--   5. What a holder knows of the sequences is so.
--   6. A poll's least mark is between its two sequences. It is at most the entry mark of each section of a seat of the poll's set that it has scanned, and the write sequence that it loaded
--      is at most the mark of each section of a seat that isn't in its set.
--   7. An advance that has both sequences has room for two more.
--   8. The write sequence is the start and two for each exchange that moved it. A note makes no advance.
-- Why part 6 is kept. By the load of the presence word, which comes after that of the write sequence l: a seat that isn't in it has no worker then, so no section is open there,
-- and one that comes and enters later has the write sequence, at least l, as its mark.
-- By the load of a seat's word: a section that entered at or before l loaded less than twice the window below l,
-- hence less than 2^31 below it, so its word is read exactly; the greater of that and the poll's read sequence is at most the mark, since the read sequence is at most every mark.
-- A section that loaded after l has a mark above l whatever is read, and one that enters after its seat was scanned has the write sequence as its mark.
use Rattle.std.specs.Prelude.{◌≡◌, ℕ, ◌+◌, ◌-◌, ◌*◌, ◌^◌, ◌<◌, ◌≤◌, List, [], ◌∷◌, ◌++◌, length, slice_index, slice_set, sum_by, Option, Some, None, IsSome}
use Rattle.std.specs.Int.{bit_at}
use mathlib.Core.Option.{some}
use lib.ListN.{get_elem?}
use Rattle.smr_seq.specs.Reading.{low}
use Rattle.smr_core.specs.declared.clock_core.ClockConfig.{ClockConfig}
use Rattle.smr_core.specs.declared.holder.Holder.{Holder}
use Rattle.smr_core.specs.declared.holder.Phase.{Phase}
use Rattle.smr_core.specs.declared.holder.Phase.TheVariants as phase
use Rattle.smr_core.specs.declared.holder.Task.{Task}
use Rattle.smr_core.specs.declared.holder.Task.TheVariants as task
use Rattle.smr_core.specs.ClockState.{IsOdd, IsInRange, place_after_seats, write_hand, read_hand, seat_word, word_of, seats_of, spent, IsSeatWord, presence_word, IsPresent, IsAbsent}

-- part 1
pub record HandsFit (a : ClockConfig) (ws : List ℕ) : Type 0 where
  pub places : place_after_seats a ≤ length ws
  pub odd_write : IsOdd (write_hand ws)
  pub odd_read : IsOdd (read_hand ws)
  pub from_start : a.start ≤ read_hand ws
  pub in_order : read_hand ws ≤ write_hand ws
  pub in_range : write_hand ws < 2 ^ 63
  pub within_window : write_hand ws - read_hand ws ≤ a.window

-- parts 2 to 4, by the phase of the holder
abbrev pub PhaseFits : ClockConfig → List ℕ → Holder → Phase → Type 0
PhaseFits a ws h phase.Outside = word_of ws h.seat ≡ 0
PhaseFits a ws h phase.Loaded = (word_of ws h.seat ≡ 0) × IsOdd h.loaded × (h.loaded ≤ write_hand ws)
PhaseFits a ws h phase.Stored = (word_of ws h.seat ≡ low h.loaded) × IsOdd h.loaded × (h.loaded ≤ write_hand ws)
PhaseFits a ws h phase.Inside =
    (word_of ws h.seat ≡ low h.loaded) × IsOdd h.loaded × (h.loaded ≤ h.mark) × (h.mark ≤ h.seen)
    × (h.mark - h.loaded < a.window) × (read_hand ws ≤ h.mark)
PhaseFits a ws h phase.Late =
    (word_of ws h.seat ≡ low h.loaded) × IsOdd h.loaded × (h.loaded ≤ h.mark) × (h.mark ≤ write_hand ws)
    × (a.window ≤ h.mark - h.loaded)
PhaseFits a ws h phase.Vacant = (word_of ws h.seat ≡ 0) × (h.task ≡ task.Idle)
PhaseFits a ws h phase.Note = h.advances ≡ 0
PhaseFits a ws h phase.Absorbed = h.advances ≡ 0

-- exactly the workers and the vacancies have a seat
abbrev pub SeatFits : Option ℕ → Phase → Type 0
SeatFits seat phase.Note = seat ≡ None
SeatFits seat phase.Absorbed = seat ≡ None
SeatFits seat _ = IsSome seat

-- part 2, by the presence word: the bit of a seat is set where its holder is a worker, and clear where it is a vacancy
abbrev pub presence_bit : Phase → ℕ
presence_bit phase.Vacant = 0
presence_bit _ = 1

-- the poll has come to a seat of its set, whose word it will load next, or is at the end
abbrev pub ScanFits : ClockConfig → Holder → Type 0
ScanFits a h = (h.scanned ≤ a.seats) × (h.scanned < a.seats → IsPresent h.present h.scanned)

-- Parts 6 and 7, by the task of the holder. An advance is for a worker alone.
abbrev pub TaskFits : ClockConfig → List ℕ → Holder → Task → Type 0
TaskFits a ws h task.Idle = Unit {0}
TaskFits a ws h task.AdvRead = IsSome h.seat × (h.read ≤ read_hand ws)
TaskFits a ws h task.AdvLoaded =
    IsSome h.seat × (h.read ≤ read_hand ws) × (h.write ≤ write_hand ws) × (h.write + 2 - h.read ≤ a.window) × (h.write + 2 < 2 ^ 63)
    × IsOdd h.write
TaskFits a ws h task.PollRead = IsOdd h.read × (h.read ≤ read_hand ws)
TaskFits a ws h task.PollLoaded = IsOdd h.read × (h.read ≤ read_hand ws) × (h.read ≤ h.write) × IsOdd h.write × (h.write ≤ write_hand ws)
TaskFits a ws h task.Scanning =
    IsOdd h.read × (h.read ≤ read_hand ws) × IsOdd h.least × (h.read ≤ h.least) × (h.least ≤ h.write) × IsOdd h.write × (h.write ≤ write_hand ws)
    × ScanFits a h

-- all that the law says of one holder
pub record HolderFits (a : ClockConfig) (ws : List ℕ) (h : Holder) : Type 0 where
  pub seen : h.seen ≤ write_hand ws
  pub floor : h.floor ≤ read_hand ws
  pub seat : SeatFits h.seat h.phase
  pub phase : PhaseFits a ws h h.phase
  pub presence : (s : ℕ) → h.seat ≡ Some s → bit_at (presence_word a ws) s ≡ presence_bit h.phase
  pub task : TaskFits a ws h h.task

-- part 2 across holders: a seat number has at most one holder, and there is no other number
pub record OneHolderEach (a : ClockConfig) (seats : List (Option ℕ)) : Type 0 where
  pub one : (i j s : ℕ) → get_elem? seats i ≡ some (Some s) → get_elem? seats j ≡ some (Some s) → i ≡ j
  pub known : (i s : ℕ) → get_elem? seats i ≡ some (Some s) → s < a.seats

abbrev pub HasNoHolder : List (Option ℕ) → ℕ → Type 0
HasNoHolder seats s = (i : ℕ) → get_elem? seats i ≡ some (Some s) → ⊥

-- part 6 across holders: what a poll's scan says of the entry mark of a section of the seat s
abbrev pub ScanCovers : Holder → ℕ → ℕ → Type 0
ScanCovers poll s mark =
    (IsPresent poll.present s → s < poll.scanned → poll.least ≤ mark)
    × (IsAbsent poll.present s → poll.write ≤ mark)

abbrev pub ScansFit : List Holder → Type 0
ScansFit hs =
    (i j s : ℕ) (poll section : Holder) → get_elem? hs i ≡ some poll → get_elem? hs j ≡ some section
    → poll.task ≡ task.Scanning → section.phase ≡ phase.Inside → section.seat ≡ Some s → ScanCovers poll s section.mark

-- part 8 across holders
abbrev pub all_advances : List Holder → ℕ
all_advances hs = sum_by (λ h. h.advances) hs

pub record ClockLaw (a : ClockConfig) (ws : List ℕ) (hs : List Holder) : Type 0 where
  pub numbers : IsInRange a
  pub hands : HandsFit a ws
  pub holders : (i : ℕ) (h : Holder) → get_elem? hs i ≡ some h → HolderFits a ws h
  pub seats : OneHolderEach a (seats_of hs)
  -- a seat whose worker is not made yet
  pub unmade : (s : ℕ) → s < a.seats → HasNoHolder (seats_of hs) s → (seat_word ws s ≡ 0) × IsPresent (presence_word a ws) s
  -- the presence word has the bits of seats alone
  pub presence : presence_word a ws < 2 ^ a.seats
  pub seat_words : (s : ℕ) → s < a.seats → IsSeatWord (seat_word ws s)
  pub scans : ScansFit hs
  pub balance : write_hand ws ≡ a.start + 2 * all_advances hs

-- ---- what it means that a step keeps the law

-- the law holds after the step, and neither hand is lower
pub record Later (a : ClockConfig) (ws : List ℕ) (ws' : List ℕ) (hs' : List Holder) : Type 0 where
  pub law : ClockLaw a ws' hs'
  pub write_not_lower : write_hand ws ≤ write_hand ws'
  pub read_not_lower : read_hand ws ≤ read_hand ws'

-- From every state in which the law holds and the holder id is h: the word i becomes f of what it was, and h becomes g of that.
abbrev pub Keeps : ClockConfig → ℕ → Holder → ℕ → (ℕ → ℕ) → (ℕ → Holder) → Type 0
Keeps a id h i f g =
    (ws : List ℕ) (hs : List Holder) → ClockLaw a ws hs → get_elem? hs id ≡ some h
    → Later a ws (slice_set ws i (f (slice_index ws i))) (slice_set hs id (g (slice_index ws i)))

-- the holder id stays, and there is one holder more
abbrev pub KeepsSplit : ClockConfig → ℕ → Holder → Holder → Type 0
KeepsSplit a id h new =
    (ws : List ℕ) (hs : List Holder) → ClockLaw a ws hs → get_elem? hs id ≡ some h → Later a ws ws (hs ++ new ∷ [])

-- the holder id becomes both, and the other is spent
abbrev pub KeepsJoin : ClockConfig → ℕ → Holder → ℕ → Holder → Holder → Type 0
KeepsJoin a id h at other both =
    (ws : List ℕ) (hs : List Holder) → ClockLaw a ws hs → get_elem? hs id ≡ some h → get_elem? hs at ≡ some other
    → Later a ws ws (slice_set (slice_set hs id both) at spent)
