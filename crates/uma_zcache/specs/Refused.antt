-- Own: when each call of a cache zone is refused, and how a refusal is counted.
use Rattle.std.specs.Prelude.{◌≡◌, ◌<◌, ◌≤◌, ◌⊎◌, ℕ}
use Rattle.deed_book.specs.declared.deed.Cause.{Cause}
use Rattle.deed_book.specs.FailViews.{cause}
use Rattle.deed_book.specs.declared.deed.BookRefused.{BookRefused}
use Rattle.deed_book.specs.declared.deed.BookRefused.TheVariants.{Numbers as BookNumbers, Memory as BookMemory}
use Rattle.uma_zcache.specs.declared.refused.ImportRefused.{ImportRefused}
use Rattle.uma_zcache.specs.declared.refused.ImportRefused.TheVariants.{NoFit as ImportNoFit, Memory as ImportMemory}
use Rattle.uma_zcache.specs.declared.refused.ZRefused.{ZRefused}
use Rattle.uma_zcache.specs.declared.refused.ZRefused.TheVariants.{Numbers, Memory as MadeMemory}
use Rattle.uma_zcache.specs.declared.refused.ZSeatRefused.{ZSeatRefused}
use Rattle.uma_zcache.specs.declared.refused.ZSeatRefused.TheVariants.{Bucket, Memory as SeatMemory}
use Rattle.uma_zcache.specs.declared.refused.ZAllocRefused.{ZAllocRefused}
use Rattle.uma_zcache.specs.declared.refused.ZAllocRefused.TheVariants.{Out, NoFit, Memory}

-- an importer's refusal, as the cache zone answers it
abbrev pub as_alloc : ImportRefused → ZAllocRefused
as_alloc (ImportNoFit size greatest) = NoFit size greatest
as_alloc ImportMemory = Memory

-- a book's refusal, as the cache zone answers it
abbrev pub as_made : BookRefused → ZRefused
as_made (BookNumbers numbers) = Numbers numbers
as_made BookMemory = MadeMemory

-- an importer that lacks a base says so by its own meaning; want of memory is free
abbrev pub ImportRefuses : (ℕ → ℕ → Type 0) → ImportRefused → Type 0
ImportRefuses lacks (ImportNoFit size greatest) = lacks size greatest
ImportRefuses lacks ImportMemory = Unit {0}

-- no cache zone has this count of numbers
abbrev pub HasNoNumbers : ℕ → Type 0
HasNoNumbers numbers = (numbers < 1) ⊎ (262144 < numbers)

-- why a cache zone of so many numbers isn't made: for the count, which is named, or else for memory
abbrev pub RefusesNumbers : ℕ → ZRefused → Type 0
RefusesNumbers numbers (Numbers named) = (named ≡ numbers) × HasNoNumbers numbers
RefusesNumbers numbers MadeMemory = (1 ≤ numbers) × (numbers ≤ 262144)

-- no seat has a stack of this size
abbrev pub HasNoBucket : ℕ → Type 0
HasNoBucket bucket = (bucket < 4) ⊎ (64 < bucket)

-- why a seat with a stack of this size isn't made: for the size, which is named, or else for memory
abbrev pub RefusesBucket : ℕ → ZSeatRefused → Type 0
RefusesBucket bucket (Bucket named) = (named ≡ bucket) × HasNoBucket bucket
RefusesBucket bucket SeatMemory = (4 ≤ bucket) × (bucket ≤ 64)

-- a refusal is counted with its kind, 1 or 2, and its numbers; want of memory isn't counted, and has no kind
abbrev pub alloc_cause : ZAllocRefused → Cause
alloc_cause (Out out numbers) = cause 1 out numbers
alloc_cause (NoFit size greatest) = cause 2 size greatest
alloc_cause Memory = cause 0 0 0
