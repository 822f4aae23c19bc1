-- A text is right or is refused, never both, and it is refused at one line for one reason.
use Rattle.std.proofs.Common.{◌≡◌, ℕ, ◌+◌, ◌<◌, true, List, [], ◌∷◌, length, Option, Some, None, refl, sym, ap, subst, ◌∙◌, arith, inl, inr}
use Rattle.std.specs.Str.Lines.{lines}
use Rattle.std.proofs.lemmas.Bool.{cases_lt}
use Rattle.trace_lines.specs.declared.refused.TraceKind.{TraceKind}
use Rattle.trace_lines.specs.TextLines.{TextLine, Test, after_earlier, spoken, is_ended, wrong_with, AreRight, IsRightText, IsFirstBad, IsRefusedAt}

-- ---- where a list is cut

-- as many earlier lines, of the same lines, are the same ones, and so are the others
pub record SameCut (a b xs ys : List (List ℕ)) : Type 0 where
  pub earlier : a ≡ b
  pub others : xs ≡ ys

same_cut : (a b xs ys : List (List ℕ)) → length a ≡ length b → after_earlier a xs ≡ after_earlier b ys → SameCut a b xs ys
same_cut [] [] xs ys len e = record { earlier = refl; others = e }
same_cut [] (y ∷ b) xs ys len e = absurd (omega arith)
same_cut (x ∷ a) [] xs ys len e = absurd (omega arith)
same_cut (x ∷ a) (y ∷ b) xs ys len e =
    let c = same_cut a b (x ∷ xs) (y ∷ ys) (omega arith) e in
    let first : x ≡ y = cc in
    let rest : xs ≡ ys = cc in
    record { earlier = rw (c.earlier, first) refl; others = rest }

length_after : (a xs : List (List ℕ)) → length (after_earlier a xs) ≡ length a + length xs
length_after [] xs = omega arith
length_after (x ∷ a) xs = omega (arith, length_after a (x ∷ xs))

-- of lines that are right, the one behind these earlier ones is right
right_at : (test : Test) (all earlier xs others : List (List ℕ)) (line : List ℕ) → AreRight test all → after_earlier all xs ≡ after_earlier earlier (line ∷ others) → length earlier < length all
    → wrong_with test earlier line ≡ None
right_at test [] earlier xs others line right e lt = absurd (omega arith)
right_at test (x ∷ all) earlier xs others line right e lt =
    elim (cases_lt (length earlier) (length all)) [
      | inl less ↦ right_at test all earlier (x ∷ xs) others line right.1 e less
      | inr not_less ↦
          let c = same_cut all earlier (x ∷ xs) (line ∷ others) (omega arith) e in
          let same : x ≡ line = let o = c.others in cc in
          let P : List (List ℕ) → Type 0 = λ l. wrong_with test l line ≡ None in
          let Q : List ℕ → Type 0 = λ l. wrong_with test all l ≡ None in
          subst P c.earlier (subst Q same right.0)
    ]

-- ---- two verdicts of one text

not_both : (o : Option TraceKind) (kind : TraceKind) → o ≡ None → o ≡ Some kind → ⊥
not_both o why e f = cc

-- a first bad line is none of lines that are all right
bad_among_right : (test : Test) (bytes : List ℕ) (n : ℕ) (kind : TraceKind) (all : List (List ℕ)) → IsFirstBad test bytes n kind → lines bytes ≡ after_earlier all [] → AreRight test all → ⊥
bad_among_right test bytes n kind all bad whole right =
    let same : after_earlier all [] ≡ after_earlier bad.earlier (bad.line ∷ bad.others) = sym whole ∙ bad.whole in
    let counted : length (after_earlier all []) ≡ length (after_earlier bad.earlier (bad.line ∷ bad.others)) = ap length same in
    let shorter : length bad.earlier < length all = omega (arith, counted, length_after all [], length_after bad.earlier (bad.line ∷ bad.others)) in
    not_both _ kind (right_at test all bad.earlier [] bad.others bad.line right same shorter) bad.wrong

-- two first bad lines are one
pub record SameRefusal (n m : ℕ) (k l : TraceKind) : Type 0 where
  pub line : n ≡ m
  pub kind : k ≡ l

one_bad : (test : Test) (bytes : List ℕ) (n m : ℕ) (k l : TraceKind) → IsFirstBad test bytes n k → IsFirstBad test bytes m l → SameRefusal n m k l
one_bad test bytes n m k l a b =
    let same : after_earlier a.earlier (a.line ∷ a.others) ≡ after_earlier b.earlier (b.line ∷ b.others) = sym a.whole ∙ b.whole in
    elim (cases_lt (length a.earlier) (length b.earlier)) [
      | inl less ↦ absurd (not_both _ k (right_at test b.earlier a.earlier (b.line ∷ b.others) a.others a.line b.right (sym same) less) a.wrong)
      | inr ge ↦
          elim (cases_lt (length b.earlier) (length a.earlier)) [
            | inl less ↦ absurd (not_both _ l (right_at test a.earlier b.earlier (a.line ∷ a.others) b.others b.line a.right same less) b.wrong)
            | inr le ↦
                let c = same_cut a.earlier b.earlier (a.line ∷ a.others) (b.line ∷ b.others) (omega arith) same in
                let line_is : a.line ≡ b.line = let o = c.others in cc in
                let found : wrong_with test a.earlier a.line ≡ Some l = rw (c.earlier, line_is) b.wrong in
                record { line = omega (arith, a.number_is, b.number_is, ap length c.earlier); kind = let w = a.wrong in cc }
          ]
    ]

same_all : (bytes : List ℕ) (all other : List (List ℕ)) → lines bytes ≡ after_earlier all [] → lines bytes ≡ after_earlier other [] → all ≡ other
same_all bytes all other e f =
    let same : after_earlier all [] ≡ after_earlier other [] = sym e ∙ f in
    let counted : length (after_earlier all []) ≡ length (after_earlier other []) = ap length same in
    (same_cut all other [] [] (omega (arith, counted, length_after all [], length_after other [])) same).earlier

pub right_is_not_refused : (test : Test) (bytes : List ℕ) (spoke : List TextLine) (n : ℕ) (kind : TraceKind) → IsRightText test bytes spoke → IsRefusedAt test bytes n kind → ⊥
right_is_not_refused test bytes spoke n kind right (inl bad) = bad_among_right test bytes n kind right.all bad right.whole right.right
right_is_not_refused test bytes spoke n why right (inr no_end) =
    let same : right.all ≡ no_end.all = same_all bytes right.all no_end.all right.whole no_end.whole in
    let ended : is_ended (spoken no_end.all) ≡ true = ap (λ a. is_ended (spoken a)) (sym same) ∙ (ap is_ended (sym right.spoke_is) ∙ right.ended) in
    let unended = no_end.unended in cc

pub refused_at_one_line : (test : Test) (bytes : List ℕ) (n m : ℕ) (k l : TraceKind) → IsRefusedAt test bytes n k → IsRefusedAt test bytes m l → SameRefusal n m k l
refused_at_one_line test bytes n m k l (inl a) (inl b) = one_bad test bytes n m k l a b
refused_at_one_line test bytes n m k l (inl a) (inr b) = absurd (bad_among_right test bytes n k b.all a b.whole b.right)
refused_at_one_line test bytes n m k l (inr a) (inl b) = absurd (bad_among_right test bytes m l a.all b a.whole a.right)
refused_at_one_line test bytes n m k l (inr a) (inr b) =
    let same : a.all ≡ b.all = same_all bytes a.all b.all a.whole b.whole in
    record { line = omega (arith, a.number_is, b.number_is, ap length same); kind = a.kind_is ∙ sym b.kind_is }

pub one_right_reading : (test : Test) (bytes : List ℕ) (a b : List TextLine) → IsRightText test bytes a → IsRightText test bytes b → a ≡ b
one_right_reading test bytes a b x y = x.spoke_is ∙ (ap spoken (same_all bytes x.all y.all x.whole y.whole) ∙ sym y.spoke_is)
