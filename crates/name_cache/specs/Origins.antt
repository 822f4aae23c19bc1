-- Own: which clock entries are of, as numbers, which are those of its table and of what it was made with.
use Rattle.std.specs.Prelude.{ℕ, List, ◌∷◌, drop, slice_index_or}
use Rattle.smr_clock.specs.Belongs.{TableId}
use Rattle.smr_clock.specs.declared.clock.Setup.{Setup}

abbrev pub clock_numbers : TableId × Setup → List ℕ
clock_numbers clock =
    let table = clock.0 in
    let setup = clock.1 in
    setup.config.start ∷ setup.config.window ∷ setup.config.seats ∷ setup.plan.0 ∷ setup.plan.1 ∷ table.words ∷ table.slots ∷ table.views_name ∷ table.atom ∷ table.block ∷ table.offset ∷ table.slot_names

abbrev number_at : List ℕ → ℕ → ℕ
number_at numbers place = slice_index_or numbers place 0

-- The clock that has these numbers. It undoes `clock_numbers`, so two clocks with equal numbers are one.
abbrev pub clock_by : List ℕ → TableId × Setup
clock_by numbers = (
  record {
    words = number_at numbers 5;
    slots = number_at numbers 6;
    views_name = number_at numbers 7;
    atom = number_at numbers 8;
    block = number_at numbers 9;
    offset = number_at numbers 10;
    slot_names = drop 11 numbers;
  },
  record {
    config = record { start = number_at numbers 0; window = number_at numbers 1; seats = number_at numbers 2 };
    plan = (number_at numbers 3, number_at numbers 4);
  },
)
