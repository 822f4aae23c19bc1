-- Own: the law of a fail book. It holds between any two steps, of what all seats of the book's table know, those of dropped shares too.
use Rattle.std.specs.Prelude.{◌≡◌, ℕ, ◌+◌, ◌==◌, ◌&&◌, Bool, List, length, sum_by, count_by, option_to_list}
use mathlib.Core.Option.{some}
use lib.ListN.{get_elem?}
use Rattle.deed_book.specs.declared.deed.Cause.{Cause}
use Rattle.deed_book.specs.declared.fail_book.FailView.{FailView}

-- 1. The first seat is the book's.
-- 2. However causes are weighed, the list of the book weighs what the lists of all shares and units and what was raised and not yet split off weigh together.
pub record FailBookLaw (views : List FailView) : Type 0 where
  pub book : FailView
  pub first : get_elem? views 0 ≡ some book
  pub balanced : (weight : Cause → ℕ) → sum_by weight book.raised ≡ sum_by (λ (v : FailView). sum_by weight v.held) views + sum_by weight (option_to_list book.pending)

abbrev pub is_cause : Cause → Cause → Bool
is_cause c d = (d.kind == c.kind) && (d.first == c.first) && (d.second == c.second)

-- how often a cause stands in a list
abbrev pub times : Cause → List Cause → ℕ
times c causes = count_by (is_cause c) causes

-- 1. The book's list weighs what the lists of all shares and units and what is pending weigh together.
-- 2. By weight 1: the number of the book is the sum of theirs.
-- 3. By the weight that picks a cause: it stands in the book's list as often as in theirs together.
pub record AddsUp (views : List FailView) (book : FailView) : Type 0 where
  pub weights : (weight : Cause → ℕ) → sum_by weight book.raised ≡ sum_by (λ (v : FailView). sum_by weight v.held) views + sum_by weight (option_to_list book.pending)
  pub numbers : length book.raised ≡ sum_by (λ (v : FailView). length v.held) views + length (option_to_list book.pending)
  pub causes : (c : Cause) → times c book.raised ≡ sum_by (λ (v : FailView). times c v.held) views + times c (option_to_list book.pending)
