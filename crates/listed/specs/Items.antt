-- Own: what a log stands for.
use Rattle.std.specs.Prelude.{List, [], ◌∷◌, ◌++◌}
use Rattle.listed.specs.declared.list.Items.{Items, Nothing, After'}

-- all items that were pushed, in order
abbrev pub listed : {T : Type 0} → Items T → List T
listed Nothing = []
listed (After' p before item) = listed before ++ item ∷ []
