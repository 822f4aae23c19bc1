-- A worker's counts of sections after one line more.
use Rattle.std.proofs.Common.{◌≡◌, ℕ, ◌+◌, ◌≤◌, List, [], ◌∷◌, Bool, true, false, true≢false, cond, refl, sym, ap, ◌∙◌, add-zero, arith}
use Rattle.smr_core.specs.declared.holder.Phase.{Phase}
use Rattle.smr_core.specs.declared.holder.Phase.TheVariants.{Inside}
use Rattle.trace_text.specs.Lines.{Line}
use Rattle.trace_text.specs.Reading.{in_section}
use Rattle.replay_worker.specs.Counting.{is_look, is_section, looks, sections}
use Rattle.replay_worker.specs.EntriesStand.{EntriesStand}
use Rattle.replay_worker.proofs.LineCounts.{looks-more, sections-more, sections-none}

-- ---- the numbers

as_many : {now before : ℕ} {b : Bool} → now ≡ before + cond b 1 0 → b ≡ false → now ≡ before
as_many {now} {before} more none = more ∙ (ap (λ b. before + cond b 1 0) none ∙ add-zero before)

one_wanted : (before : ℕ) {now : ℕ} {b : Bool} → now ≡ before + cond b 1 0 → b ≡ true → now ≡ before + 1
one_wanted before more one = more ∙ ap (λ b. before + cond b 1 0) one

at_most_one : (b : Bool) (before : ℕ) {now : ℕ} → now ≡ before + cond b 1 0 → now ≤ before + 1
at_most_one true before more = omega arith
at_most_one false before more = omega arith

not_fewer : (b : Bool) {now before : ℕ} → now ≡ before + cond b 1 0 → before ≤ now
not_fewer true more = omega arith
not_fewer false more = omega arith

enough_kept : (e l : ℕ) {s s' e' l' : ℕ} → s' ≡ s → e' ≡ e → l' ≡ l → s ≤ e + l → s' ≤ e' + l'
enough_kept e l a b c d = omega arith

enough_entered : (e l : ℕ) {s s' e' l' : ℕ} → s' ≤ s + 1 → e' ≡ e + 1 → l' ≡ l → s ≤ e + l → s' ≤ e' + l'
enough_entered e l a b c d = omega arith

enough_late : (e l : ℕ) {s s' e' l' : ℕ} → s' ≤ s + 1 → e' ≡ e → l' ≡ l + 1 → s ≤ e + l → s' ≤ e' + l'
enough_late e l a b c d = omega arith

most_kept : (e l s k : ℕ) {s' k' e' l' : ℕ} → s ≤ s' → k ≤ k' → e' ≡ e → l' ≡ l → e + l ≤ s + k → e' + l' ≤ s' + k'
most_kept e l s k a b c d f = omega arith

most_entered : (e l s k s' k' : ℕ) {e' l' : ℕ} → s + k + 1 ≤ s' + k' → e' ≡ e + 1 → l' ≡ l → e + l ≤ s + k → e' + l' ≤ s' + k'
most_entered e l s k s' k' a b c d = omega arith

most_late : (e l s k s' k' : ℕ) {e' l' : ℕ} → s + k + 1 ≤ s' + k' → e' ≡ e → l' ≡ l + 1 → e + l ≤ s + k → e' + l' ≤ s' + k'
most_late e l s k s' k' a b c d = omega arith

wants_one : (s k : ℕ) {s' k' : ℕ} → s' ≡ s + 1 → k ≤ k' → s + k + 1 ≤ s' + k'
wants_one s k a b = omega arith

looks_once : (s k : ℕ) {s' k' : ℕ} → s ≤ s' → k' ≡ k + 1 → s + k + 1 ≤ s' + k'
looks_once s k a b = omega arith

never_late : (l : ℕ) {l' : ℕ} {P : Type 0} → l' ≡ l + 1 → l' ≡ 0 → P
never_late l more none = absurd (omega arith)

none_before : {l l' : ℕ} → l' ≡ l → l' ≡ 0 → l ≡ 0
none_before same none = omega arith

in_time_kept : {e e' s s' : ℕ} → e' ≡ e → s' ≡ s → e ≡ s → e' ≡ s'
in_time_kept a b c = omega arith

in_time_more : {e e' s s' : ℕ} → e' ≡ e + 1 → s' ≡ s + 1 → e ≡ s → e' ≡ s'
in_time_more a b c = omega arith

none_enough : (n : ℕ) → 0 ≤ n
none_enough n = omega arith

most_as : (e l : ℕ) {s s' k k' : ℕ} → s' ≡ s → k' ≡ k → e + l ≤ s + k → e + l ≤ s' + k'
most_as e l a b c = omega arith

-- ---- the steps

-- a line of the worker, or another one, that wants a section or looks up
abbrev pub WantsOrLooks : ℕ → List Line → Line → Type 0
WantsOrLooks n lines line = sections n lines + looks n lines + 1 ≤ sections n (line ∷ lines) + looks n (line ∷ lines)

pub wants : (n : ℕ) (line : Line) (lines : List Line) → is_section n lines line ≡ true → WantsOrLooks n lines line
wants n line lines is =
    wants_one (sections n lines) (looks n lines) (one_wanted (sections n lines) (sections-more n line lines) is) (not_fewer (is_look n line) (looks-more n line lines))

pub looks_up : (n : ℕ) (line : Line) (lines : List Line) → is_look n line ≡ true → WantsOrLooks n lines line
looks_up n line lines is =
    looks_once (sections n lines) (looks n lines) (not_fewer (is_section n lines line) (sections-more n line lines)) (one_wanted (looks n lines) (looks-more n line lines) is)

-- the counts stay
pub entries_kept : (n : ℕ) (line : Line) (lines : List Line) (e l e' l' : ℕ) (phase phase' : Phase) → is_section n lines line ≡ false → e' ≡ e → l' ≡ l
    → (in_section (line ∷ lines) n ≡ true → (in_section lines n ≡ true) × (phase' ≡ phase))
    → EntriesStand n lines e l phase → EntriesStand n (line ∷ lines) e' l' phase'
entries_kept n line lines e l e' l' phase phase' quiet same_e same_l still stands =
    let more : sections n (line ∷ lines) ≡ sections n lines = as_many (sections-more n line lines) quiet in
    record {
      enough = enough_kept e l more same_e same_l stands.enough;
      in_time = λ none. in_time_kept same_e more (stands.in_time (none_before same_l none));
      most = most_kept e l (sections n lines) (looks n lines) (not_fewer (is_section n lines line) (sections-more n line lines)) (not_fewer (is_look n line) (looks-more n line lines)) same_e same_l stands.most;
      inside = λ none inner. (still inner).1 ∙ stands.inside (none_before same_l none) (still inner).0;
    }

-- one more was entered
pub entries_entered : (n : ℕ) (line : Line) (lines : List Line) (e l e' l' : ℕ) (phase phase' : Phase) → (l ≡ 0 → is_section n lines line ≡ true) → WantsOrLooks n lines line → e' ≡ e + 1 → l' ≡ l
    → (l ≡ 0 → in_section (line ∷ lines) n ≡ true → phase' ≡ Inside)
    → EntriesStand n lines e l phase → EntriesStand n (line ∷ lines) e' l' phase'
entries_entered n line lines e l e' l' phase phase' one once more_e same_l inside stands = record {
  enough = enough_entered e l (at_most_one (is_section n lines line) (sections n lines) (sections-more n line lines)) more_e same_l stands.enough;
  in_time = λ none. in_time_more more_e (one_wanted (sections n lines) (sections-more n line lines) (one (none_before same_l none))) (stands.in_time (none_before same_l none));
  most = most_entered e l (sections n lines) (looks n lines) (sections n (line ∷ lines)) (looks n (line ∷ lines)) once more_e same_l stands.most;
  inside = λ none inner. inside (none_before same_l none) inner;
}

-- one more was late
pub entries_late : (n : ℕ) (line : Line) (lines : List Line) (e l e' l' : ℕ) (phase phase' : Phase) → WantsOrLooks n lines line → e' ≡ e → l' ≡ l + 1
    → EntriesStand n lines e l phase → EntriesStand n (line ∷ lines) e' l' phase'
entries_late n line lines e l e' l' phase phase' once same_e more_l stands = record {
  enough = enough_late e l (at_most_one (is_section n lines line) (sections n lines) (sections-more n line lines)) same_e more_l stands.enough;
  in_time = λ none. never_late l more_l none;
  most = most_late e l (sections n lines) (looks n lines) (sections n (line ∷ lines)) (looks n (line ∷ lines)) once same_e more_l stands.most;
  inside = λ none inner. never_late l more_l none;
}

-- before the first line
pub entries_none : (n e l : ℕ) (phase : Phase) → e ≡ 0 → l ≡ 0 → EntriesStand n [] e l phase
entries_none n e l phase no_e no_l = record {
  enough = enough_kept 0 0 (sections-none n) no_e no_l (none_enough 0);
  in_time = λ none. no_e ∙ sym (sections-none n);
  most = most_kept 0 0 0 0 (none_enough (sections n [])) (none_enough (looks n [])) no_e no_l (none_enough 0);
  inside = λ none inner. absurd (true≢false (sym inner));
}

-- lines that count the same and read alike
pub entries_as : (n : ℕ) (a b : List Line) (e l : ℕ) (phase : Phase) → sections n a ≡ sections n b → looks n a ≡ looks n b → in_section a n ≡ in_section b n → EntriesStand n b e l phase → EntriesStand n a e l phase
entries_as n a b e l phase same_sections same_looks alike stands = record {
  enough = enough_kept e l same_sections refl refl stands.enough;
  in_time = λ none. stands.in_time none ∙ sym same_sections;
  most = most_as e l same_sections same_looks stands.most;
  inside = λ none inner. stands.inside none (sym alike ∙ inner);
}
