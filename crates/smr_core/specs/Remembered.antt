-- What a view of the running clock remembers beside its holder, and the law of it. The core keeps none of this.
use Rattle.std.specs.Prelude.{◌≡◌, ℕ, ◌+◌, ◌<◌, List, [], ◌∷◌, ◌++◌, map, fold, Contains, Some, ◌⊎◌}
use mathlib.Core.Option.{some}
use lib.ListN.{get_elem?}
use Rattle.smr_seq.specs.Reading.{low}
use Rattle.smr_core.specs.declared.clock_core.ClockConfig.{ClockConfig}
use Rattle.smr_core.specs.declared.holder.Holder.{Holder}
use Rattle.smr_core.specs.declared.holder.Phase.{Phase}
use Rattle.smr_core.specs.declared.holder.Phase.TheVariants as phase
use Rattle.smr_core.specs.declared.holder.Task.TheVariants as task
use Rattle.smr_core.specs.declared.turns.FoundWord.{FoundWord}
use Rattle.smr_core.specs.ClockState.{IsOdd, seats_below}
use Rattle.smr_core.specs.ClockStep.{least_after, last_found}

-- A poll that came to its exchange: both sequences and the presence word that it loaded, the words that it found, the least mark, and the read sequence last found.
-- The reading of its tag is not kept: it follows from the tag and the write sequence.
pub record LastPoll : Type 0 where
  pub read : ℕ
  pub write : ℕ
  pub present : ℕ
  pub found : List FoundWord
  pub least : ℕ
  pub value : ℕ

pub record Remembered : Type 0 where
  -- all write sequences whose low half it has stored in its word
  pub stored : List ℕ
  -- in Scanning, the words that it has loaded, each with the number of its seat
  pub found : List FoundWord
  -- its last poll that came to its exchange; all 0 and no word where there was none
  pub last : LastPoll
  -- how many of its polls came to their exchange
  pub polls : ℕ

abbrev pub nothing_remembered : Remembered
nothing_remembered = record { stored = []; found = []; last = record { read = 0; write = 0; present = 0; found = []; least = 0; value = 0 }; polls = 0 }

-- ---- what the steps add to it

abbrev pub stored_too : Remembered → Holder → Remembered
stored_too r h = record r { stored = r.stored ++ h.loaded ∷ [] }

abbrev pub none_found : Remembered → Remembered
none_found r = record r { found = [] }

-- the word of the seat that is next in the set of the poll of the holder h
abbrev pub found_too : Remembered → Holder → ℕ → Remembered
found_too r h word = record r { found = r.found ++ record { seat = h.scanned; word = word } ∷ [] }

-- the poll of the holder h came to its exchange, which found this read sequence
abbrev pub poll_done : Remembered → Holder → ℕ → Remembered
poll_done r h found =
    record r {
      found = [];
      last = record { read = h.read; write = h.write; present = h.present; found = r.found; least = h.least; value = last_found h found };
      polls = r.polls + 1;
    }

-- ---- its law

-- the seats whose words these are, and the words alone, in their order
abbrev pub seats_found : List FoundWord → List ℕ
seats_found found = map (λ f. f.seat) found

abbrev pub words_found : List FoundWord → List ℕ
words_found found = map (λ f. f.word) found

-- the least mark after these words
abbrev pub least_of : ℕ → ℕ → List ℕ → ℕ
least_of read write words = fold (λ least word. least_after read write least word) write words

-- The word in front of a section is that of an enter which the worker remembers.
abbrev pub StoredFits : Phase → Holder → Remembered → Type 0
StoredFits phase.Stored h r = Contains r.stored h.loaded
StoredFits phase.Inside h r = Contains r.stored h.loaded
StoredFits phase.Late h r = Contains r.stored h.loaded
StoredFits _ h r = Unit {0}

-- The words found are those of the seats of the set that are scanned, one each and in order, and the least mark follows from them.
pub record FoundFits (h : Holder) (r : Remembered) : Type 0 where
  pub seats : seats_found r.found ≡ seats_below h.present h.scanned
  pub least : h.least ≡ least_of h.read h.write (words_found r.found)

-- The last poll loaded one word for each seat of its set, and for no other, and its least mark follows from them.
pub record LastFits (a : ClockConfig) (last : LastPoll) : Type 0 where
  pub seats : seats_found last.found ≡ seats_below last.present a.seats
  pub least : last.least ≡ least_of last.read last.write (words_found last.found)

abbrev pub View : Type 0
View = Holder × Remembered

-- the worker of the seat s, or its vacancy, remembers that it has stored this write sequence
pub record HasStored (vs : List View) (s entered : ℕ) : Type 0 where
  pub id : ℕ
  pub worker : View
  pub there : get_elem? vs id ≡ some worker
  pub seat : worker.0.seat ≡ Some s
  pub remembers : Contains worker.1.stored entered

-- each word found at a seat is 0, or the low half of a write sequence that the worker of that seat has stored
abbrev pub WordsWereStored : List View → List FoundWord → Type 0
WordsWereStored vs found = (f : FoundWord) → Contains found f → (f.word ≡ 0) ⊎ ((entered : ℕ) × HasStored vs f.seat entered × (f.word ≡ low entered))

pub record RememberedFits (a : ClockConfig) (vs : List View) (v : View) : Type 0 where
  pub stored : StoredFits v.0.phase v.0 v.1
  pub odd : (entered : ℕ) → Contains v.1.stored entered → IsOdd entered
  pub scan : v.0.task ≡ task.Scanning → FoundFits v.0 v.1
  pub found : WordsWereStored vs v.1.found
  pub last : 0 < v.1.polls → LastFits a v.1.last
  pub last_words : WordsWereStored vs v.1.last.found

-- the law of what is remembered, over all views
abbrev pub RememberedLaw : ClockConfig → List View → Type 0
RememberedLaw a vs = (id : ℕ) (v : View) → get_elem? vs id ≡ some v → RememberedFits a vs v
