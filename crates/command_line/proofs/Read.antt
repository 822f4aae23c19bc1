-- A list of words without a `-` in front of any is read by clap as the command that it is, or refused where it is none.
use Rattle.std.proofs.Common.{◌≡◌, ◌∙◌, ◌||◌, ◌⊎◌, ℕ, Bool, true, false, List, [], ◌∷◌, length, Option, Some, None, Result, Ok, Err, refl, sym, ap, subst, inl, inr, arith, codes, true≢false}
use Rattle.std.proofs.lemmas.Bool.{cases_Bool}
use Rattle.std.proofs.lemmas.Slice.Eq.{bytes_eq-Decides}
use Rattle.std.specs.List.{list_any}
use Rattle.std.specs.Str.{bytes_eq}
use Rattle.clap.proofs.OnLiterals.{clap_on_literals}
use Rattle.clap.specs.Kinds.{Kinds, or_else}
use Rattle.clap.specs.Faults.{level_fault}
use Rattle.clap.specs.Walk.{idle, nothing_held, rows_after, subcommand_met}
use Rattle.clap.specs.Words.{Row, Shape, Text, fault_of, first_of, subcommand_of}
use Rattle.clap.specs.declared.error.kind.ErrorKind.{ErrorKind}
use Rattle.clap.specs.declared.error.kind.ErrorKind.TheVariants.{InvalidSubcommand, MissingRequiredArgument, MissingSubcommand, UnknownArgument}
use Rattle.trace_lines.specs.declared.refused.TraceKind.{TraceKind}
use Rattle.command_line.proofs.Levels.{entered_is, named, names, no_words, unnamed}
use Rattle.command_line.proofs.Numbered.{bare, bare_more, bare_none, ops_are, seed_is, three, three_all, three_more, three_none, three_one, three_two, workers_are}
use Rattle.command_line.proofs.PlainWords.{IsPlain, is_plain}
use Rattle.command_line.specs.Commands.{command_named, command_of, command_with, numbers}
use Rattle.command_line.specs.Grammar.{grammar}
use Rattle.command_line.specs.Reading.{command_met, is_option}
use Rattle.command_line.specs.declared.command.Command.{Command}

-- the command of the name that clap met, with the rows behind it
abbrev pub command_at : Text → List Row → Option Command
command_at name rows = command_met name (first_of (codes "seed") rows) (first_of (codes "workers") rows) (first_of (codes "ops") rows)

-- clap meets a name, and the command that the words are is what comes of it
pub record Meets (words : List Text) : Type 0 where
  pub name : Text
  pub rows : List Row
  pub free : fault_of grammar words ≡ []
  pub met : subcommand_of grammar words ≡ Some (name, rows)
  pub is : command_of words ≡ command_at name rows

-- clap refuses the words, and they are no command
pub record Misses (words : List Text) : Type 0 where
  pub fails : fault_of grammar words ≡ [] → ⊥
  pub is : command_of words ≡ None

abbrev pub Reads : List Text → Type 0
Reads words = Meets words ⊎ Misses words

refused : (words : List Text) (kind : ErrorKind) (kinds : Kinds) → fault_of grammar words ≡ kind ∷ kinds → command_of words ≡ None → Reads words
refused words kind kinds fault is =
    inr record { fails = λ free. let bad : length (kind ∷ kinds) ≡ 0 = ap length (sym fault ∙ free) in absurd (omega arith); is = is }

first_false : (a b : Bool) → (a || b) ≡ false → a ≡ false
first_false true b is = is
first_false false b is = refl

second_false : (a b : Bool) → (a || b) ≡ false → b ≡ false
second_false true b is = absurd (true≢false is)
second_false false b is = is

-- ---- what is no command

-- a word that makes no command of numbers begins none of more than one word
beyond_one : (name : Text) → ((made : Result (ℕ × ℕ × ℕ) TraceKind) → command_with name made ≡ None) → (a : Text) (more : List Text) → command_of (name ∷ a ∷ more) ≡ None
beyond_one name none a [] = refl
beyond_one name none a (b ∷ []) = refl
beyond_one name none a (b ∷ c ∷ []) = none (numbers a b c)
beyond_one name none a (b ∷ c ∷ d ∷ more) = refl

-- a word that is none of the four
abbrev OtherWord : Text → Type 0
OtherWord word =
    (bytes_eq word (codes "replay") ≡ false) × (bytes_eq word (codes "steps") ≡ false) × (bytes_eq word (codes "gen") ≡ false) × (bytes_eq word (codes "bulk") ≡ false)

other_with : (word : Text) → OtherWord word → (made : Result (ℕ × ℕ × ℕ) TraceKind) → command_with word made ≡ None
other_with word other (Ok made) = rw (other.2, other.3) refl
other_with word other (Err why) = refl

other_words : (word : Text) (rest : List Text) → OtherWord word → command_of (word ∷ rest) ≡ None
other_words word [] other = rw (other.0, other.1) refl
other_words word (a ∷ more) other = beyond_one word (other_with word other) a more

turned : (xs ys : List ℕ) → bytes_eq xs ys ≡ false → bytes_eq ys xs ≡ false
turned xs ys differ = elim (cases_Bool (bytes_eq ys xs)) [
  | inl same ↦ absurd (true≢false (sym ((bytes_eq-Decides xs ys).1 (sym ((bytes_eq-Decides ys xs).0 same))) ∙ differ))
  | inr unlike ↦ unlike
]

other_unmet : (word : Text) → OtherWord word → subcommand_met names idle word ≡ None
other_unmet word other =
    let replay = turned word (codes "replay") other.0 in
    let steps = turned word (codes "steps") other.1 in
    let gen = turned word (codes "gen") other.2 in
    let bulk = turned word (codes "bulk") other.3 in
    rw (replay, steps, gen, bulk) refl

-- ---- the commands

-- what clap makes of a name and the words behind it
record Enters (name : Text) (leaf : Shape) : Type 0 where
  pub fault : (rest : List Text) → fault_of grammar (name ∷ rest) ≡ or_else (level_fault leaf [] nothing_held rest false []) []
  pub met : (rest : List Text) → subcommand_of grammar (name ∷ rest) ≡ Some (leaf.name, rows_after leaf.rules [] rest)

replay : Enters (codes "replay") (bare (codes "replay"))
unfolding clap_on_literals
replay = record {
  fault = λ rest. named (codes "replay") (bare (codes "replay")) rest refl refl refl;
  met = λ rest. entered_is (codes "replay") (bare (codes "replay")) rest refl refl;
}

steps : Enters (codes "steps") (bare (codes "steps"))
unfolding clap_on_literals
steps = record {
  fault = λ rest. named (codes "steps") (bare (codes "steps")) rest refl refl refl;
  met = λ rest. entered_is (codes "steps") (bare (codes "steps")) rest refl refl;
}

gen : Enters (codes "gen") (three (codes "gen"))
unfolding clap_on_literals
gen = record {
  fault = λ rest. named (codes "gen") (three (codes "gen")) rest refl refl refl;
  met = λ rest. entered_is (codes "gen") (three (codes "gen")) rest refl refl;
}

bulk : Enters (codes "bulk") (three (codes "bulk"))
unfolding clap_on_literals
bulk = record {
  fault = λ rest. named (codes "bulk") (three (codes "bulk")) rest refl refl refl;
  met = λ rest. entered_is (codes "bulk") (three (codes "bulk")) rest refl refl;
}

plain_first : (word : Text) (rest : List Text) → list_any is_option (word ∷ rest) ≡ false → IsPlain word
plain_first word rest plain = is_plain word (first_false (is_option word) _ plain)

plain_rest : (word : Text) (rest : List Text) → list_any is_option (word ∷ rest) ≡ false → list_any is_option rest ≡ false
plain_rest word rest plain = second_false (is_option word) _ plain

-- a command without words behind its name
bare_reads : (name : Text) → Enters name (bare name) → ((made : Result (ℕ × ℕ × ℕ) TraceKind) → command_with name made ≡ None)
    → (rest : List Text) → list_any is_option rest ≡ false → Reads (name ∷ rest)
bare_reads name enters none [] plain = inl record {
  name = name;
  rows = [];
  free = enters.fault [] ∙ ap (λ (k : Kinds). or_else k []) (bare_none name);
  met = enters.met [];
  is = refl;
}
bare_reads name enters none (a ∷ more) plain =
    refused (name ∷ a ∷ more) UnknownArgument [] (enters.fault (a ∷ more) ∙ ap (λ (k : Kinds). or_else k []) (bare_more name a more (plain_first a more plain)))
    (beyond_one name none a more)

-- a command with three words behind its name
three_reads : (name : Text) → Enters name (three name) → command_named name ≡ None → (rest : List Text) → list_any is_option rest ≡ false → Reads (name ∷ rest)
three_reads name enters none [] plain =
    refused (name ∷ []) MissingRequiredArgument [] (enters.fault [] ∙ ap (λ (k : Kinds). or_else k []) (three_none name)) none
three_reads name enters none (a ∷ []) plain =
    refused (name ∷ a ∷ []) MissingRequiredArgument [] (enters.fault (a ∷ []) ∙ ap (λ (k : Kinds). or_else k []) (three_one name a (plain_first a [] plain))) refl
three_reads name enters none (a ∷ b ∷ []) plain =
    let behind_a = plain_rest a (b ∷ []) plain in
    refused (name ∷ a ∷ b ∷ []) MissingRequiredArgument []
    (enters.fault (a ∷ b ∷ []) ∙ ap (λ (k : Kinds). or_else k []) (three_two name a b (plain_first a (b ∷ []) plain) (plain_first b [] behind_a))) refl
three_reads name enters none (a ∷ b ∷ c ∷ []) plain =
    let behind_a = plain_rest a (b ∷ c ∷ []) plain in
    let behind_b = plain_rest b (c ∷ []) behind_a in
    let plain_a = plain_first a (b ∷ c ∷ []) plain in
    let plain_b = plain_first b (c ∷ []) behind_a in
    let plain_c = plain_first c [] behind_b in
    let rows : List Row = rows_after (three name).rules [] (a ∷ b ∷ c ∷ []) in
    inl record {
      name = name;
      rows = rows;
      free = enters.fault (a ∷ b ∷ c ∷ []) ∙ ap (λ (k : Kinds). or_else k []) (three_all name a b c plain_a plain_b plain_c);
      met = enters.met (a ∷ b ∷ c ∷ []);
      is = sym (ap (λ seed. command_met name seed (first_of (codes "workers") rows) (first_of (codes "ops") rows)) (seed_is name a b c plain_a plain_b plain_c)
          ∙ ap (λ workers. command_met name (Some a) workers (first_of (codes "ops") rows)) (workers_are name a b c plain_a plain_b plain_c)
          ∙ ap (λ ops. command_met name (Some a) (Some b) ops) (ops_are name a b c plain_a plain_b plain_c));
    }
three_reads name enters none (a ∷ b ∷ c ∷ d ∷ more) plain =
    let behind_a = plain_rest a (b ∷ c ∷ d ∷ more) plain in
    let behind_b = plain_rest b (c ∷ d ∷ more) behind_a in
    let behind_c = plain_rest c (d ∷ more) behind_b in
    refused (name ∷ a ∷ b ∷ c ∷ d ∷ more) UnknownArgument []
    (enters.fault (a ∷ b ∷ c ∷ d ∷ more)
    ∙ ap (λ (k : Kinds). or_else k []) (three_more name a b c (plain_first a (b ∷ c ∷ d ∷ more) plain) (plain_first b (c ∷ d ∷ more) behind_a) (plain_first c (d ∷ more) behind_b) d more (plain_first d more behind_c)))
    refl

-- ---- any words

replay_with : (made : Result (ℕ × ℕ × ℕ) TraceKind) → command_with (codes "replay") made ≡ None
replay_with (Ok made) = refl
replay_with (Err why) = refl

steps_with : (made : Result (ℕ × ℕ × ℕ) TraceKind) → command_with (codes "steps") made ≡ None
steps_with (Ok made) = refl
steps_with (Err why) = refl

equal : (word name : Text) → bytes_eq word name ≡ true → name ≡ word
equal word name is = sym ((bytes_eq-Decides word name).0 is)

pub reads : (words : List Text) → list_any is_option words ≡ false → Reads words
reads [] plain = refused [] MissingSubcommand [] no_words refl
reads (word ∷ rest) plain =
    let At : Text → Type 0 = λ name. Reads (name ∷ rest) in
    let behind = plain_rest word rest plain in
    elim (cases_Bool (bytes_eq word (codes "replay"))) [
      | inl is ↦ subst At (equal word (codes "replay") is) (bare_reads (codes "replay") replay replay_with rest behind)
      | inr no_replay ↦ elim (cases_Bool (bytes_eq word (codes "steps"))) [
        | inl is ↦ subst At (equal word (codes "steps") is) (bare_reads (codes "steps") steps steps_with rest behind)
        | inr no_steps ↦ elim (cases_Bool (bytes_eq word (codes "gen"))) [
          | inl is ↦ subst At (equal word (codes "gen") is) (three_reads (codes "gen") gen refl rest behind)
          | inr no_gen ↦ elim (cases_Bool (bytes_eq word (codes "bulk"))) [
            | inl is ↦ subst At (equal word (codes "bulk") is) (three_reads (codes "bulk") bulk refl rest behind)
            | inr no_bulk ↦
                let other : OtherWord word = (no_replay, no_steps, no_gen, no_bulk) in
                refused (word ∷ rest) UnknownArgument (InvalidSubcommand ∷ []) (unnamed word rest (plain_first word rest plain) (other_unmet word other)) (other_words word rest other)
          ]
        ]
      ]
    ]
