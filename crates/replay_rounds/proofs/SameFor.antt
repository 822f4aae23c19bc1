-- Two lists of lines that are one to a worker: they read alike for it, and each count of its own lines is the same.
use Rattle.std.proofs.Common.{◌≡◌, ◌≢◌, ℕ, suc, ◌+◌, ◌≤◌, List, [], ◌∷◌, Bool, true, false, cond, refl, sym, ap, ◌∙◌, arith, length, map, eq-eqb}
use Rattle.std.proofs.lemmas.Bool.{ne_eqb}
use Rattle.std.proofs.lemmas.List.Sums.{sum_by-cons, count_by-le-length}
use Rattle.std.specs.Prelude.{not, ◌==◌, ◌&&◌, nat_lt}
use Rattle.std.specs.Option.{option_map_or}
use Rattle.trace_text.specs.declared.trace.Op.{Op}
use Rattle.trace_text.specs.declared.trace.Op.TheVariants.{Alloc, Free, Enter, Bind, Unbind, Look}
use Rattle.trace_text.specs.Lines.{Line, Does}
use Rattle.trace_text.specs.Reading.{held, in_section}
use Rattle.replay_worker.specs.Counting.{is_ask, is_ask_with_arg, is_ask_with, is_section, is_look, is_bind, is_unbind, is_free_of, asked, argued, asked_with, sections, looks, binds, unbinds, freed}
use Rattle.replay_worker.specs.OwnLines.{stacked, worked}
use Rattle.replay_worker.proofs.Alike.{Alike, Alike-self, Alike-others, Alike-own}
use Rattle.replay_worker.proofs.LineCounts.{asked-more, argued-more, asked_with-more, sections-more, looks-more, binds-more, unbinds-more, freed-more}
use Rattle.replay_rounds.specs.DoneBy.{is_by, done_by}

pub record SameFor (n : ℕ) (a b : List Line) : Type 0 where
  pub alike : Alike n a b
  pub requests : (z : ℕ) → asked n z a ≡ asked n z b
  pub arguments : (z : ℕ) → argued n z a ≡ argued n z b
  pub codes : (z code : ℕ) → asked_with n z code a ≡ asked_with n z code b
  pub sections_same : sections n a ≡ sections n b
  pub looks_same : looks n a ≡ looks n b
  pub binds_same : binds n a ≡ binds n b
  pub unbinds_same : unbinds n a ≡ unbinds n b
  pub frees : (z : ℕ) → freed n z a ≡ freed n z b
  pub operations : done_by n a ≡ done_by n b

pub SameFor-self : (n : ℕ) (a : List Line) → SameFor n a a
SameFor-self n a = record {
  alike = Alike-self n a;
  requests = λ z. refl;
  arguments = λ z. refl;
  codes = λ z code. refl;
  sections_same = refl;
  looks_same = refl;
  binds_same = refl;
  unbinds_same = refl;
  frees = λ z. refl;
  operations = refl;
}

pub done_by-more : (n : ℕ) (line : Line) (lines : List Line) → done_by n (line ∷ lines) ≡ done_by n lines + cond (is_by n line) 1 0
unfolding done_by
done_by-more n line lines = omega (arith, sum_by-cons (λ l. cond (is_by n l) 1 0) line lines)

pub done_by-few : (n : ℕ) (lines : List Line) → done_by n lines ≤ length lines
unfolding done_by
done_by-few n lines = count_by-le-length (is_by n) lines

pub done_by-none : (n : ℕ) → done_by n [] ≡ 0
unfolding done_by
done_by-none n = refl

-- ---- a line of another worker counts nothing

is_ask-others : (n z v : ℕ) (op : Op) → v ≢ n → is_ask n z (Does v op) ≡ false
is_ask-others n z v (Alloc w slot arg reserve) apart = ap (λ b. b && (w == z)) (ne_eqb v n apart)
is_ask-others n z v op apart = refl

is_ask_with_arg-others : (n z v : ℕ) (op : Op) → v ≢ n → is_ask_with_arg n z (Does v op) ≡ false
is_ask_with_arg-others n z v (Alloc w slot arg reserve) apart = ap (λ b. b && ((w == z) && nat_lt 0 arg)) (ne_eqb v n apart)
is_ask_with_arg-others n z v op apart = refl

is_ask_with-others : (n z code v : ℕ) (op : Op) → v ≢ n → is_ask_with n z code (Does v op) ≡ false
is_ask_with-others n z code v (Alloc w slot arg reserve) apart = ap (λ b. b && ((w == z) && (arg == code))) (ne_eqb v n apart)
is_ask_with-others n z code v op apart = refl

is_section-others : (n v : ℕ) (op : Op) (a : List Line) → v ≢ n → is_section n a (Does v op) ≡ false
is_section-others n v Enter a apart = ne_eqb v n apart
is_section-others n v (Look key) a apart = ap (λ b. b && not (in_section a n)) (ne_eqb v n apart)
is_section-others n v op a apart = refl

is_look-others : (n v : ℕ) (op : Op) → v ≢ n → is_look n (Does v op) ≡ false
is_look-others n v (Look key) apart = ne_eqb v n apart
is_look-others n v op apart = refl

is_bind-others : (n v : ℕ) (op : Op) → v ≢ n → is_bind n (Does v op) ≡ false
is_bind-others n v (Bind key value) apart = ne_eqb v n apart
is_bind-others n v op apart = refl

is_unbind-others : (n v : ℕ) (op : Op) → v ≢ n → is_unbind n (Does v op) ≡ false
is_unbind-others n v (Unbind key) apart = ne_eqb v n apart
is_unbind-others n v op apart = refl

is_free_of-others : (n z v : ℕ) (op : Op) (a : List Line) → v ≢ n → is_free_of n z a (Does v op) ≡ false
is_free_of-others n z v (Free slot) a apart = ap (λ b. b && option_map_or (λ zone. zone == z) (held a v slot) false) (ne_eqb v n apart)
is_free_of-others n z v op a apart = refl

pub none_counted : {now before : ℕ} {b : Bool} → now ≡ before + cond b 1 0 → b ≡ false → now ≡ before
none_counted {now} {before} {b} more none = more ∙ (ap (λ t. before + cond t 1 0) none ∙ omega arith)

pub SameFor-others : (n v : ℕ) (op : Op) (a b : List Line) → v ≢ n → SameFor n a b → SameFor n (Does v op ∷ a) b
SameFor-others n v op a b apart same = record {
  alike = Alike-others n v op a b apart same.alike;
  requests = λ z. none_counted (asked-more n z (Does v op) a) (is_ask-others n z v op apart) ∙ same.requests z;
  arguments = λ z. none_counted (argued-more n z (Does v op) a) (is_ask_with_arg-others n z v op apart) ∙ same.arguments z;
  codes = λ z code. none_counted (asked_with-more n z code (Does v op) a) (is_ask_with-others n z code v op apart) ∙ same.codes z code;
  sections_same = none_counted (sections-more n (Does v op) a) (is_section-others n v op a apart) ∙ same.sections_same;
  looks_same = none_counted (looks-more n (Does v op) a) (is_look-others n v op apart) ∙ same.looks_same;
  binds_same = none_counted (binds-more n (Does v op) a) (is_bind-others n v op apart) ∙ same.binds_same;
  unbinds_same = none_counted (unbinds-more n (Does v op) a) (is_unbind-others n v op apart) ∙ same.unbinds_same;
  frees = λ z. none_counted (freed-more n z (Does v op) a) (is_free_of-others n z v op a apart) ∙ same.frees z;
  operations = none_counted (done_by-more n (Does v op) a) (ne_eqb v n apart) ∙ same.operations;
}

-- ---- the worker's own line on top of both

both_counted : {now then a b : ℕ} {p q : Bool} → now ≡ a + cond p 1 0 → then ≡ b + cond q 1 0 → a ≡ b → p ≡ q → now ≡ then
both_counted {now} {then} {a} {b} {p} {q} e f same as_well = e ∙ (ap (λ t. t + cond p 1 0) same ∙ (ap (λ t. b + cond t 1 0) as_well ∙ sym f))

is_free_of-own : (n z : ℕ) (op : Op) (a b : List Line) → Alike n a b → is_free_of n z a (Does n op) ≡ is_free_of n z b (Does n op)
is_free_of-own n z (Free slot) a b same = ap (λ o. (n == n) && option_map_or (λ zone. zone == z) o false) (same.same_held slot)
is_free_of-own n z op a b same = refl

is_section-own : (n : ℕ) (op : Op) (a b : List Line) → Alike n a b → is_section n a (Does n op) ≡ is_section n b (Does n op)
is_section-own n (Look key) a b same = ap (λ inner. (n == n) && not inner) same.same_section
is_section-own n op a b same = refl

pub SameFor-own : (n : ℕ) (op : Op) (a b : List Line) → SameFor n a b → SameFor n (Does n op ∷ a) (Does n op ∷ b)
SameFor-own n op a b same = record {
  alike = Alike-own n op a b same.alike;
  requests = λ z. both_counted (asked-more n z (Does n op) a) (asked-more n z (Does n op) b) (same.requests z) refl;
  arguments = λ z. both_counted (argued-more n z (Does n op) a) (argued-more n z (Does n op) b) (same.arguments z) refl;
  codes = λ z code. both_counted (asked_with-more n z code (Does n op) a) (asked_with-more n z code (Does n op) b) (same.codes z code) refl;
  sections_same = both_counted (sections-more n (Does n op) a) (sections-more n (Does n op) b) same.sections_same (is_section-own n op a b same.alike);
  looks_same = both_counted (looks-more n (Does n op) a) (looks-more n (Does n op) b) same.looks_same refl;
  binds_same = both_counted (binds-more n (Does n op) a) (binds-more n (Does n op) b) same.binds_same refl;
  unbinds_same = both_counted (unbinds-more n (Does n op) a) (unbinds-more n (Does n op) b) same.unbinds_same refl;
  frees = λ z. both_counted (freed-more n z (Does n op) a) (freed-more n z (Does n op) b) (same.frees z) (is_free_of-own n z op a b same.alike);
  operations = both_counted (done_by-more n (Does n op) a) (done_by-more n (Does n op) b) same.operations refl;
}

-- ---- whole lists

pub SameFor-list : (n v : ℕ) (ops : List Op) (a b : List Line) → v ≢ n → SameFor n a b → SameFor n (stacked (map (Does v) ops) a) b
unfolding stacked
SameFor-list n v [] a b apart same = same
SameFor-list n v (op ∷ ops) a b apart same = SameFor-list n v ops (Does v op ∷ a) b apart (SameFor-others n v op a b apart same)

pub SameFor-worked : (n : ℕ) (ops : List Op) (a b : List Line) → SameFor n a b → SameFor n (stacked (map (Does n) ops) a) (worked n ops b)
unfolding stacked worked
SameFor-worked n [] a b same = same
SameFor-worked n (op ∷ ops) a b same = SameFor-worked n ops (Does n op ∷ a) (Does n op ∷ b) (SameFor-own n op a b same)

own_counted : {now : ℕ} {b : Bool} (rest before : ℕ) → now ≡ before + cond b 1 0 → b ≡ true → rest + now ≡ suc rest + before
own_counted rest before more own = ap (λ t. rest + t) (more ∙ ap (λ t. before + cond t 1 0) own) ∙ omega arith

-- the operations of its own list
pub done_by-worked : (n : ℕ) (ops : List Op) (before : List Line) → done_by n (worked n ops before) ≡ length ops + done_by n before
unfolding worked
done_by-worked n [] before = omega arith
done_by-worked n (op ∷ ops) before =
    done_by-worked n ops (Does n op ∷ before) ∙ own_counted (length ops) (done_by n before) (done_by-more n (Does n op) before) (eq-eqb n n refl)
