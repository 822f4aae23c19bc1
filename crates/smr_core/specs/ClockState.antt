-- The state of the reclamation clock: the numbers it is made with, its words, and its holders.
-- The sequences and the seats' words are those of FreeBSD's smr(9), with whole hands of 64 bits in place of wrapping ones (own). The presence word, and what a holder knows, are own.
use Rattle.std.specs.Prelude.{◌≡◌, ℕ, zero, suc, ◌+◌, ◌-◌, ◌*◌, ◌%◌, ◌^◌, ◌<◌, ◌≤◌, ◌==◌, List, [], ◌∷◌, ◌++◌, map, replicate, slice_index, slice_set, Bool, if◌then◌else◌, Option, Some, None}
use Rattle.std.specs.Int.{bit_at}
use Rattle.smr_core.specs.declared.clock_core.ClockConfig.{ClockConfig}
use Rattle.smr_core.specs.declared.holder.Holder.{Holder}
use Rattle.smr_core.specs.declared.holder.Phase.TheVariants as phase
use Rattle.smr_core.specs.declared.holder.Task.TheVariants as task

-- Both sequences are odd. Sequences rise by 2, so 0 is no half of a hand and can stand for 'no section'.
abbrev pub IsOdd : ℕ → Type 0
IsOdd n = n % 2 ≡ 1

-- the numbers that a clock may be made with
pub record IsInRange (a : ClockConfig) : Type 0 where
  pub some_seat : 1 ≤ a.seats
  pub few_seats : a.seats ≤ 64
  pub odd_start : IsOdd a.start
  pub low_start : a.start < 2 ^ 63
  pub even_window : a.window % 2 ≡ 0
  pub least_window : 4 ≤ a.window
  pub greatest_window : a.window ≤ 2 ^ 30

-- ---- the words: the write sequence, the read sequence, the word of each seat, the presence word, and behind them words of which the clock knows nothing

-- The word k stands at the place 8 k, so that each has a cache line of its own: 64 bytes are eight words. The words between are unused and 0.
abbrev pub line : ℕ → ℕ
line k = 8 * k

abbrev pub write_place : ℕ
write_place = 0

abbrev pub read_place : ℕ
read_place = 8

abbrev pub seat_place : ℕ → ℕ
seat_place s = line (2 + s)

abbrev pub presence_place : ClockConfig → ℕ
presence_place a = line (2 + a.seats)

-- the place of the first word after the clock's own, which begins a line too
abbrev pub place_after_seats : ClockConfig → ℕ
place_after_seats a = line (3 + a.seats)

abbrev pub write_hand : List ℕ → ℕ
write_hand ws = slice_index ws write_place

abbrev pub read_hand : List ℕ → ℕ
read_hand ws = slice_index ws read_place

abbrev pub seat_word : List ℕ → ℕ → ℕ
seat_word ws s = slice_index ws (seat_place s)

-- the word of a holder: that of its seat, and 0 where it has none
abbrev pub word_of : List ℕ → Option ℕ → ℕ
word_of ws None = 0
word_of ws (Some s) = seat_word ws s

-- what a seat's word may be: 0, or the low half of an odd number
pub record IsSeatWord (word : ℕ) : Type 0 where
  pub narrow : word < 2 ^ 32
  pub odd : 1 ≤ word → IsOdd word

-- ---- sets of seats, as the bits of a word: bit s is that of the seat s

abbrev pub presence_word : ClockConfig → List ℕ → ℕ
presence_word a ws = slice_index ws (presence_place a)

-- The seat is in the set, or it isn't. In the presence word are the seats that have a worker.
abbrev pub IsPresent : ℕ → ℕ → Type 0
IsPresent seats s = bit_at seats s ≡ 1

abbrev pub IsAbsent : ℕ → ℕ → Type 0
IsAbsent seats s = bit_at seats s ≡ 0

abbrev pub is_present : ℕ → ℕ → Bool
is_present seats s = bit_at seats s == 1

-- the set of all seats of a clock
abbrev pub all_seats : ClockConfig → ℕ
all_seats a = 2 ^ a.seats - 1

-- the least of the n numbers from k on that is in the set, and k + n where none is
abbrev pub first_of : ℕ → ℕ → ℕ → ℕ
first_of seats k zero = k
first_of seats k (suc n) = if is_present seats k then k else first_of seats (suc k) n

-- the least seat from k on that is in the set, and the count of seats where none is
abbrev pub next_present : ClockConfig → ℕ → ℕ → ℕ
next_present a seats k = first_of seats k (a.seats - k)

-- the numbers below n that are in the set, in order
abbrev pub seats_below : ℕ → ℕ → List ℕ
seats_below seats zero = []
seats_below seats (suc n) = if is_present seats n then seats_below seats n ++ n ∷ [] else seats_below seats n

-- the words before any step: both sequences at the start, every seat's word 0, and all seats present
abbrev pub opening_words : ClockConfig → List ℕ
opening_words a =
    slice_set (slice_set (slice_set (replicate (place_after_seats a) 0) write_place a.start) read_place a.start) (presence_place a) (all_seats a)

-- ---- the holders

-- the seat of each holder, in their order
abbrev pub seats_of : List Holder → List (Option ℕ)
seats_of hs = map (λ h. h.seat) hs

-- A holder that was taken in. It is always this one.
abbrev pub spent : Holder
spent =
    record {
      seat = None;
      phase = phase.Absorbed;
      loaded = 0;
      mark = 0;
      task = task.Idle;
      read = 0;
      write = 0;
      present = 0;
      scanned = 0;
      least = 0;
      seen = 0;
      floor = 0;
      advances = 0;
    }

-- The holder with which a clock begins, and from which its workers are split off. It knows where both sequences begin.
abbrev pub first_holder : ClockConfig → Holder
first_holder a = record spent { phase = phase.Note; seen = a.start; floor = a.start }

-- ---- sections and goals

-- the holder is in a section, whose entry mark is w
abbrev pub IsInSection : Holder → ℕ → Type 0
IsInSection h w = (h.phase ≡ phase.Inside) × (h.mark ≡ w)

-- a section is before a goal where its entry mark is below it
abbrev pub IsBefore : ℕ → ℕ → Type 0
IsBefore w g = w < g

-- a goal is expired where the read sequence has come to it
abbrev pub IsExpired : List ℕ → ℕ → Type 0
IsExpired ws g = g ≤ read_hand ws
