-- The words of hooks that an item can pass, and the law that ties them to the life trail. That hooks come in pairs and in order is the rule of FreeBSD's uma(9); its form here is own.
use Rattle.std.specs.Prelude.{◌≡◌, ◌<◌, ◌%◌, ◌^◌, ◌==◌, ◌↔◌, ℕ, zero, suc, Bool, true, false, cond, List, [], ◌∷◌, ◌++◌, flat_map, count_by}
use Rattle.uma_life.specs.declared.tally.BodyPhase.{BodyPhase}
use Rattle.uma_life.specs.declared.tally.BodyPhase.TheVariants.{Raw}
use Rattle.uma_life.specs.declared.tally.ZoneTally.{ZoneTally}
use Rattle.uma_life.specs.declared.tally.Tally.{Tally}
use Rattle.uma_life.specs.Life.{Life, raw_life}
use Rattle.uma_life.specs.Hook.{Hook, KegInit, ZoneInit, Ctor, Dtor, ZoneFini, KegFini, MayPass, last_phase, after}
use Rattle.uma_life.specs.Trail.{OnTrail}

-- an item of this life can pass the hooks of the word, one after another: what each hook needs holds of the life that those before it left
abbrev pub CanPass : Life → List Hook → Type 0
CanPass life [] = Unit {0}
CanPass life (hook ∷ word) = MayPass hook life × CanPass (after hook life) word

-- so many builds in a zone: (ctor dtor)*
abbrev pub builds : ℕ → ℕ → List Hook
builds zone zero = []
builds zone (suc times) = Ctor zone ∷ Dtor zone ∷ builds zone times

-- a stay in a zone below 8, with its number of builds
pub record Stay : Type 0 where
  pub zone : ℕ
  pub times : ℕ
  pub in_range : zone < 8

-- (ctor dtor)* in zone 0, and zone_init (ctor dtor)* zone_fini in the others
abbrev pub stay_word : Stay → List Hook
stay_word stay = let all = builds stay.zone stay.times in cond (stay.zone == 0) all (ZoneInit stay.zone ∷ all ++ ZoneFini stay.zone ∷ [])

-- keg_init stay* keg_fini
abbrev pub whole_life : List Stay → List Hook
whole_life stays = KegInit ∷ flat_map stay_word stays ++ KegFini ∷ []

-- the word is a prefix of a whole life. That of an item in use is a proper one
abbrev pub IsLifeSoFar : List Hook → Type 0
IsLifeSoFar word = (stays : List Stay) × (rest : List Hook) × (word ++ rest ≡ whole_life stays)

abbrev pub is_hook : Hook → Hook → Bool
is_hook KegInit KegInit = true
is_hook (ZoneInit zone) (ZoneInit other) = zone == other
is_hook (Ctor zone) (Ctor other) = zone == other
is_hook (Dtor zone) (Dtor other) = zone == other
is_hook (ZoneFini zone) (ZoneFini other) = zone == other
is_hook KegFini KegFini = true
is_hook _ _ = false

-- how often a hook stands in a word, as a counter of 64 bits shows it
abbrev pub times_in : List Hook → Hook → ℕ
times_in word hook = count_by (is_hook hook) word % 2 ^ 64

abbrev pub zone_counts_in : List Hook → ℕ → ZoneTally
zone_counts_in word zone = record {
  inits = times_in word (ZoneInit zone);
  ctors = times_in word (Ctor zone);
  dtors = times_in word (Dtor zone);
  finis = times_in word (ZoneFini zone);
}

-- one value for each zone, in order
abbrev pub by_zone : (ℕ → ZoneTally) → List ZoneTally
by_zone f = f 0 ∷ f 1 ∷ f 2 ∷ f 3 ∷ f 4 ∷ f 5 ∷ f 6 ∷ f 7 ∷ []

-- how often each hook stands in a word
abbrev pub tally_in : List Hook → Tally
tally_in word = record { keg_inits = times_in word KegInit; keg_finis = times_in word KegFini; zones = by_zone (zone_counts_in word) }

-- the phase that the last hook of a word goes to, or else the phase given
abbrev pub phase_behind : BodyPhase → List Hook → BodyPhase
phase_behind phase [] = phase
phase_behind phase (hook ∷ word) = phase_behind (last_phase hook) word

-- the life of an item that passed the hooks of a word: where the last one goes to, and how often each stands there
abbrev pub life_of_word : ℕ → List Hook → Life
life_of_word number word = record { no = number; phase = phase_behind Raw word; tally = tally_in word }

-- 1. The words that an item can pass from when it is raw are the prefixes of whole lives.
-- 2. The phase and the counts of such a word agree with the life trail.
-- 3. The life of the word of no hook is that of a raw body, and each hook takes the life of a word to that of the word with the hook appended.
pub record HooksRunInOrder : Type 0 where
  pub words : (number : ℕ) (word : List Hook) → CanPass (raw_life number) word ↔ IsLifeSoFar word
  pub agree : (number : ℕ) (word : List Hook) → IsLifeSoFar word → let life = life_of_word number word in OnTrail life.phase life.tally
  pub begins : (number : ℕ) → life_of_word number [] ≡ raw_life number
  pub goes_on : (number : ℕ) (word : List Hook) (hook : Hook) → IsLifeSoFar (word ++ hook ∷ []) → MayPass hook (life_of_word number word) × (after hook (life_of_word number word) ≡ life_of_word number (word ++ hook ∷ []))
