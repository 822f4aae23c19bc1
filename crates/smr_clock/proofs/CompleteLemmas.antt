-- When an advance may not be refused, and when a poll may not say no.
use Rattle.std.proofs.Common.{◌≡◌, ℕ, suc, ◌<◌, ◌≤◌, List, [], ◌∷◌, refl, ap, ◌∙◌, arith, fold, ⊎_elim}
use Rattle.smr_seq.specs.Reading.{low}
use Rattle.smr_seq.proofs.ReadingLemmas.{IsReading-unique, low-IsReading}
use Rattle.smr_core.specs.declared.turns.FoundWord.{FoundWord}
use Rattle.smr_core.specs.ClockStep.{least_after}
use Rattle.smr_core.specs.Remembered.{words_found}
use Rattle.smr_clock.specs.declared.polls.AdvanceRefused.TheVariants.{TooFar, Spent}
use Rattle.smr_clock.specs.Complete.{AdvancesWithRoom, SaysYesOfKnown, NoneEntered, SaysYesOfNoSection}

pub advances_with_room : {P : Type 0} → AdvancesWithRoom P
advances_with_room v v' (Spent write) (read, loads, past, after) room near = omega arith
advances_with_room v v' (TooFar read write) (loads, small, far, after) room near =
    let floor : v.holder.floor ≤ read = loads.read_found.not_lower in omega arith

pub says_yes_of_known : {P : Type 0} → SaysYesOfKnown P
says_yes_of_known v v' goal seen says_no near known =
    let loaded : v.holder.seen ≤ v'.memory.last.write = says_no.write_not_older in
    let read : v.holder.floor ≤ v'.memory.last.read = says_no.read_not_older in
    let above : v'.memory.last.read < says_no.reading = says_no.not_read in
    let same : says_no.reading ≡ goal = IsReading-unique (low goal) v'.memory.last.write says_no.reading goal says_no.is_reading (low-IsReading goal v'.memory.last.write (omega arith) near) in
    omega arith

-- words of 0 leave the least mark
least_stays : (read write least : ℕ) (found : List FoundWord) → NoneEntered found → fold (λ m word. least_after read write m word) least (words_found found) ≡ least
least_stays read write least [] outside = refl
least_stays read write least (f ∷ fs) outside =
    ap (λ (w : ℕ). fold (λ m x. least_after read write m x) (least_after read write least w) (words_found fs)) (outside 0 f (omega arith))
    ∙ least_stays read write least fs (λ k d below. outside (suc k) d (omega arith))

pub says_yes_of_no_section : {P : Type 0} → SaysYesOfNoSection P
says_yes_of_no_section v v' tag says_no outside ended =
    let least : v'.memory.last.least ≡ v'.memory.last.write =
    says_no.least ∙ least_stays v'.memory.last.read v'.memory.last.write v'.memory.last.write v'.memory.last.found outside in
    let up_to : says_no.reading ≤ v'.memory.last.write = says_no.is_reading.up_to in
    let above : v'.memory.last.value < says_no.reading = says_no.not_yet in
    ⊎_elim (λ t. omega (arith, t)) (λ t. omega (arith, t)) ended
