-- Own: the four numbers of a list, which contracts alone see.
use Rattle.std.specs.Prelude.{ℕ, ◌+◌, ◌*◌, ◌≤◌, List, [], ◌∷◌}

-- Since the list was made: how many values were listed, how many pushes there were, how many of its advances answered, and how many values were listed since the last of those.
pub record Numbers : Type 0 where
  pub retired : ℕ
  pub pushed : ℕ
  pub answered : ℕ
  pub since : ℕ

abbrev pub none : Numbers
none = record { retired = 0; pushed = 0; answered = 0; since = 0 }

-- after a value more, before the advance that may follow
abbrev pub one_retired : Numbers → Numbers
one_retired n = record n { retired = n.retired + 1; since = n.since + 1 }

-- after a push more, before its advance
abbrev pub one_pushed : Numbers → Numbers
one_pushed n = record n { pushed = n.pushed + 1 }

-- after an advance that answered
abbrev pub one_answered : Numbers → Numbers
one_answered n = record n { answered = n.answered + 1; since = 0 }

-- an advance is due in a retirement where so many or more were listed since the last one that answered, its own value among them
abbrev pub IsDue : ℕ → Numbers → Type 0
IsDue limit n = limit ≤ n.since

-- Deferred: at most one advance answers for each `limit` values listed, and one for each push.
abbrev pub AreFew : ℕ → Numbers → Type 0
AreFew limit n = limit * n.answered ≤ n.retired + limit * n.pushed

-- What is kept is more: the values since the last advance that answered aren't spent on one yet.
abbrev pub ArePaced : ℕ → Numbers → Type 0
ArePaced limit n = limit * n.answered + n.since ≤ n.retired + limit * n.pushed

-- how a tag spells them
abbrev pub spelled : Numbers → List ℕ
spelled n = n.retired ∷ (n.pushed ∷ (n.answered ∷ (n.since ∷ [])))
