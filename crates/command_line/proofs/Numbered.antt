-- What clap makes of the words behind a command's name.
use Rattle.std.proofs.Common.{◌≡◌, ◌∙◌, ℕ, Bool, false, List, [], ◌∷◌, Some, refl, ap, ap₂, codes}
use Rattle.clap.proofs.OnLiterals.{clap_on_literals}
use Rattle.clap.specs.Faults.{check_fault, defaults_fault, level_fault, settle_fault, step_fault, walk_fault}
use Rattle.clap.specs.Kinds.{Kinds, or_else}
use Rattle.clap.specs.Simple.{built_leaf, inherited, new_shape}
use Rattle.clap.specs.Walk.{Held, Names, Walk, arg_by_index, finished, nothing_held, rows_after, settled, to_positional, value, walk, walked}
use Rattle.clap.specs.Words.{Row, Rule, Shape, Text, first_of}
use Rattle.clap.specs.declared.error.kind.ErrorKind.{ErrorKind}
use Rattle.clap.specs.declared.error.kind.ErrorKind.TheVariants.{MissingRequiredArgument, UnknownArgument}
use Rattle.command_line.proofs.PlainWords.{IsPlain, turn_at, walk_at, walked_to}
use Rattle.command_line.specs.Grammar.{grammar, numbered}

-- ---- one level of the words

-- the faults behind the walk
abbrev pub rest_fault : Shape → Held → Bool → Kinds
rest_fault s end has =
    or_else (settle_fault s.rules s.args_override_self end)
    (or_else (defaults_fault (settled s.rules end).rows s.rules) (check_fault s (finished s.rules end) has))

pub level_is : (s : Shape) (names : Names) (words : List Text) (has : Bool) (below found : Kinds) (end : Walk) → walk_fault s names (walk_at nothing_held 1) words ≡ found
    → walk s.rules names nothing_held words ≡ end → level_fault s names nothing_held words has below ≡ or_else found (or_else below (rest_fault s end.held has))
level_is s names words has below found end faults ends = ap₂ (λ (f : Kinds) (w : Walk). or_else f (or_else below (rest_fault s w.held has))) faults ends

-- where the walk goes after a word that is a value
abbrev pub placed : List Rule → Held → ℕ → Text → Walk
placed rules h position word = to_positional rules (arg_by_index rules position) word (walk_at h position) h

module _ (s : Shape) (h : Held) (position : ℕ) (word : Text) (plain : IsPlain word) (rest : List Text) where
  -- the word has its place
  pub goes_on : step_fault s position h value ≡ [] → walk_fault s [] (walk_at h position) (word ∷ rest) ≡ walk_fault s [] (placed s.rules h position word) rest
  unfolding walk_fault
  goes_on none = ap₂ or_else (turn_at [] word plain refl s h position ∙ none) (ap (λ (w : Walk). walk_fault s [] w rest) (walked_to [] word plain refl s.rules h position))

  -- the word has none
  pub ends_here : (k : ErrorKind) (ks : Kinds) → step_fault s position h value ≡ k ∷ ks → walk_fault s [] (walk_at h position) (word ∷ rest) ≡ k ∷ ks
  unfolding walk_fault
  ends_here k ks is = ap (λ (found : Kinds). or_else found (walk_fault s [] (walked s.rules [] (walk_at h position) word) rest)) (turn_at [] word plain refl s h position ∙ is)

-- ---- a command that takes no word

-- a command below the program's name, as clap builds it
abbrev pub below : Shape → Shape
below s = built_leaf (inherited grammar.top s)

abbrev pub bare : Text → Shape
bare name = below (new_shape name)

pub bare_none : (name : Text) → level_fault (bare name) [] nothing_held [] false [] ≡ []
unfolding clap_on_literals
bare_none name = refl

pub bare_more : (name word : Text) (rest : List Text) → IsPlain word → level_fault (bare name) [] nothing_held (word ∷ rest) false [] ≡ UnknownArgument ∷ []
bare_more name word rest plain = level_is (bare name) [] (word ∷ rest) false [] (UnknownArgument ∷ []) _ (ends_here (bare name) nothing_held 1 word plain rest UnknownArgument [] refl) refl

-- ---- a command that takes SEED, WORKERS and OPS

abbrev pub three : Text → Shape
three name = below (numbered name)

abbrev rules : List Rule
rules = (three []).rules

-- where the walk is after one word, after two and after three
abbrev one : Text → Walk
one a = placed rules nothing_held 1 a

abbrev two : Text → Text → Walk
two a b = placed rules (one a).held 2 b

abbrev pub all : Text → Text → Text → Walk
all a b c = placed rules (two a b).held 3 c

module _ (name a : Text) (plain_a : IsPlain a) where
  walk_one : walk rules [] nothing_held (a ∷ []) ≡ one a
  walk_one = walked_to [] a plain_a refl rules nothing_held 1

  fault_one : (rest : List Text) → walk_fault (three name) [] (walk_at nothing_held 1) (a ∷ rest) ≡ walk_fault (three name) [] (one a) rest
  fault_one rest = goes_on (three name) nothing_held 1 a plain_a rest refl

module _ (name a b : Text) (plain_a : IsPlain a) (plain_b : IsPlain b) where
  walk_two : walk rules [] nothing_held (a ∷ b ∷ []) ≡ two a b
  walk_two = ap (λ (w : Walk). walked rules [] w b) (walk_one name a plain_a) ∙ walked_to [] b plain_b refl rules (one a).held 2

  fault_two : (rest : List Text) → walk_fault (three name) [] (walk_at nothing_held 1) (a ∷ b ∷ rest) ≡ walk_fault (three name) [] (two a b) rest
  fault_two rest = fault_one name a plain_a (b ∷ rest) ∙ goes_on (three name) (one a).held 2 b plain_b rest refl

module _ (name a b c : Text) (plain_a : IsPlain a) (plain_b : IsPlain b) (plain_c : IsPlain c) where
  walk_all : walk rules [] nothing_held (a ∷ b ∷ c ∷ []) ≡ all a b c
  walk_all = ap (λ (w : Walk). walked rules [] w c) (walk_two name a b plain_a plain_b) ∙ walked_to [] c plain_c refl rules (two a b).held 3

  fault_all : (rest : List Text) → walk_fault (three name) [] (walk_at nothing_held 1) (a ∷ b ∷ c ∷ rest) ≡ walk_fault (three name) [] (all a b c) rest
  fault_all rest = fault_two name a b plain_a plain_b (c ∷ rest) ∙ goes_on (three name) (two a b).held 3 c plain_c rest refl

  pub three_all : level_fault (three name) [] nothing_held (a ∷ b ∷ c ∷ []) false [] ≡ []
  unfolding clap_on_literals
  three_all = level_is (three name) [] (a ∷ b ∷ c ∷ []) false [] [] (all a b c) (fault_all []) walk_all

  pub three_more : (d : Text) (rest : List Text) → IsPlain d → level_fault (three name) [] nothing_held (a ∷ b ∷ c ∷ d ∷ rest) false [] ≡ UnknownArgument ∷ []
  three_more d rest plain_d =
      level_is (three name) [] (a ∷ b ∷ c ∷ d ∷ rest) false [] (UnknownArgument ∷ []) _
      (fault_all (d ∷ rest) ∙ ends_here (three name) (all a b c).held 4 d plain_d rest UnknownArgument [] refl) refl

  abbrev rows : List Row
  rows = rows_after (three name).rules [] (a ∷ b ∷ c ∷ [])

  rows_are : rows ≡ finished rules (all a b c).held
  rows_are = ap (λ (w : Walk). finished rules w.held) walk_all

  pub seed_is : first_of (codes "seed") rows ≡ Some a
  seed_is = ap (first_of (codes "seed")) rows_are

  pub workers_are : first_of (codes "workers") rows ≡ Some b
  workers_are = ap (first_of (codes "workers")) rows_are

  pub ops_are : first_of (codes "ops") rows ≡ Some c
  ops_are = ap (first_of (codes "ops")) rows_are

pub three_none : (name : Text) → level_fault (three name) [] nothing_held [] false [] ≡ MissingRequiredArgument ∷ []
unfolding clap_on_literals
three_none name = refl

pub three_one : (name a : Text) → IsPlain a → level_fault (three name) [] nothing_held (a ∷ []) false [] ≡ MissingRequiredArgument ∷ []
unfolding clap_on_literals
three_one name a plain = level_is (three name) [] (a ∷ []) false [] [] (one a) (fault_one name a plain []) (walk_one name a plain)

pub three_two : (name a b : Text) → IsPlain a → IsPlain b → level_fault (three name) [] nothing_held (a ∷ b ∷ []) false [] ≡ MissingRequiredArgument ∷ []
unfolding clap_on_literals
three_two name a b plain_a plain_b = level_is (three name) [] (a ∷ b ∷ []) false [] [] (two a b) (fault_two name a b plain_a plain_b []) (walk_two name a b plain_a plain_b)
