-- The counts of a worker's lines with one line more.
use Rattle.std.proofs.Common.{◌≡◌, ℕ, ◌+◌, ◌≤◌, List, [], ◌∷◌, Bool, true, false, cond, Some, refl, ap, ◌∙◌, arith, length, eq-eqb}
use Rattle.std.proofs.lemmas.List.Sums.{sum_by-cons, count_by-le-length}
use Rattle.std.specs.Prelude.{not, ◌&&◌, ◌==◌, nat_lt}
use Rattle.std.specs.Option.{option_map_or}
use Rattle.trace_text.specs.declared.trace.Op.TheVariants.{Alloc, Free, Enter, Bind, Unbind, Look}
use Rattle.trace_text.specs.Lines.{Line, Does}
use Rattle.trace_text.specs.Reading.{held, in_section}
use Rattle.replay_worker.specs.Counting.{is_ask, is_ask_with_arg, is_ask_with, is_section, is_look, is_bind, is_unbind, is_free_of, asked, argued, asked_with, sections, looks, binds, unbinds, freed}

pub asked-more : (n z : ℕ) (line : Line) (lines : List Line) → asked n z (line ∷ lines) ≡ asked n z lines + cond (is_ask n z line) 1 0
unfolding asked
asked-more n z line lines = omega (arith, sum_by-cons (λ l. cond (is_ask n z l) 1 0) line lines)

pub argued-more : (n z : ℕ) (line : Line) (lines : List Line) → argued n z (line ∷ lines) ≡ argued n z lines + cond (is_ask_with_arg n z line) 1 0
unfolding argued
argued-more n z line lines = omega (arith, sum_by-cons (λ l. cond (is_ask_with_arg n z l) 1 0) line lines)

pub asked_with-more : (n z code : ℕ) (line : Line) (lines : List Line) → asked_with n z code (line ∷ lines) ≡ asked_with n z code lines + cond (is_ask_with n z code line) 1 0
unfolding asked_with
asked_with-more n z code line lines = omega (arith, sum_by-cons (λ l. cond (is_ask_with n z code l) 1 0) line lines)

pub sections-more : (n : ℕ) (line : Line) (lines : List Line) → sections n (line ∷ lines) ≡ sections n lines + cond (is_section n lines line) 1 0
unfolding sections
sections-more n line lines = refl

pub looks-more : (n : ℕ) (line : Line) (lines : List Line) → looks n (line ∷ lines) ≡ looks n lines + cond (is_look n line) 1 0
unfolding looks
looks-more n line lines = omega (arith, sum_by-cons (λ l. cond (is_look n l) 1 0) line lines)

pub binds-more : (n : ℕ) (line : Line) (lines : List Line) → binds n (line ∷ lines) ≡ binds n lines + cond (is_bind n line) 1 0
unfolding binds
binds-more n line lines = omega (arith, sum_by-cons (λ l. cond (is_bind n l) 1 0) line lines)

pub unbinds-more : (n : ℕ) (line : Line) (lines : List Line) → unbinds n (line ∷ lines) ≡ unbinds n lines + cond (is_unbind n line) 1 0
unfolding unbinds
unbinds-more n line lines = omega (arith, sum_by-cons (λ l. cond (is_unbind n l) 1 0) line lines)

pub freed-more : (n z : ℕ) (line : Line) (lines : List Line) → freed n z (line ∷ lines) ≡ freed n z lines + cond (is_free_of n z lines line) 1 0
unfolding freed
freed-more n z line lines = refl

-- none counts more than there are lines
pub asked-few : (n z : ℕ) (lines : List Line) → asked n z lines ≤ length lines
unfolding asked
asked-few n z lines = count_by-le-length (is_ask n z) lines

unit-le : (b : Bool) → cond b 1 0 ≤ 1
unit-le true = omega arith
unit-le false = omega arith

pub sections-few : (n : ℕ) (lines : List Line) → sections n lines ≤ length lines
unfolding sections
sections-few n [] = omega arith
sections-few n (line ∷ lines) = omega (arith, sections-few n lines, unit-le (is_section n lines line))

pub looks-few : (n : ℕ) (lines : List Line) → looks n lines ≤ length lines
unfolding looks
looks-few n lines = count_by-le-length (is_look n) lines

pub binds-few : (n : ℕ) (lines : List Line) → binds n lines ≤ length lines
unfolding binds
binds-few n lines = count_by-le-length (is_bind n) lines

pub unbinds-few : (n : ℕ) (lines : List Line) → unbinds n lines ≤ length lines
unfolding unbinds
unbinds-few n lines = count_by-le-length (is_unbind n) lines

pub freed-few : (n z : ℕ) (lines : List Line) → freed n z lines ≤ length lines
unfolding freed
freed-few n z [] = omega arith
freed-few n z (line ∷ lines) = omega (arith, freed-few n z lines, unit-le (is_free_of n z lines line))

-- before the first line
pub asked-none : (n z : ℕ) → asked n z [] ≡ 0
unfolding asked
asked-none n z = refl

pub sections-none : (n : ℕ) → sections n [] ≡ 0
unfolding sections
sections-none n = refl

pub looks-none : (n : ℕ) → looks n [] ≡ 0
unfolding looks
looks-none n = refl

pub binds-none : (n : ℕ) → binds n [] ≡ 0
unfolding binds
binds-none n = refl

pub freed-none : (n z : ℕ) → freed n z [] ≡ 0
unfolding freed
freed-none n z = refl

-- ---- the worker's own lines

itself : (n : ℕ) (b : Bool) → ((n == n) && b) ≡ b
itself n b = rw (eq-eqb n n refl) refl

pub is_ask-own : (n z w slot arg : ℕ) (reserve : Bool) → is_ask n z (Does n (Alloc w slot arg reserve)) ≡ (w == z)
is_ask-own n z w slot arg reserve = itself n (w == z)

pub is_ask_with_arg-own : (n z w slot arg : ℕ) (reserve : Bool) → is_ask_with_arg n z (Does n (Alloc w slot arg reserve)) ≡ ((w == z) && nat_lt 0 arg)
is_ask_with_arg-own n z w slot arg reserve = itself n ((w == z) && nat_lt 0 arg)

pub is_ask_with-own : (n z code w slot arg : ℕ) (reserve : Bool) → is_ask_with n z code (Does n (Alloc w slot arg reserve)) ≡ ((w == z) && (arg == code))
is_ask_with-own n z code w slot arg reserve = itself n ((w == z) && (arg == code))

pub is_enter-own : (n : ℕ) (lines : List Line) → is_section n lines (Does n Enter) ≡ true
is_enter-own n lines = eq-eqb n n refl

pub is_look-own : (n key : ℕ) → is_look n (Does n (Look key)) ≡ true
is_look-own n key = eq-eqb n n refl

pub is_bind-own : (n key value : ℕ) → is_bind n (Does n (Bind key value)) ≡ true
is_bind-own n key value = eq-eqb n n refl

pub is_unbind-own : (n key : ℕ) → is_unbind n (Does n (Unbind key)) ≡ true
is_unbind-own n key = eq-eqb n n refl

-- a look wants a section of its own where none is open
pub is_section-look : (n key : ℕ) (lines : List Line) (inside : Bool) → in_section lines n ≡ inside → is_section n lines (Does n (Look key)) ≡ not inside
is_section-look n key lines inside is = itself n (not (in_section lines n)) ∙ ap not is

pub is_free-own : (n z w slot : ℕ) (lines : List Line) → held lines n slot ≡ Some w → is_free_of n z lines (Does n (Free slot)) ≡ (w == z)
is_free-own n z w slot lines holds = itself n (option_map_or (λ zone. zone == z) (held lines n slot) false) ∙ ap (λ o. option_map_or (λ zone. zone == z) o false) holds
