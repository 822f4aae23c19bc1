-- Own: what contracts see of the stack of a seat.
use Rattle.std.specs.Prelude.{◌≡◌, ◌≤◌, ℕ, List, [], ◌∷◌, ◌++◌}
use Rattle.uma_zcache.specs.declared.cache.Held.{Held}
use Rattle.uma_zcache.specs.declared.locked.Stack.{Stack}

-- its items, the last put at the end
abbrev pub stack_items : Stack → List Held
stack_items stack = stack.items.items

-- how many items it has room for
abbrev pub stack_size : Stack → ℕ
stack_size stack = stack.size

-- it has room for so many items, and has none
pub record IsNewStack (room : ℕ) (stack : Stack) : Type 0 where
  pub size : stack_size stack ≡ room
  pub empty : stack_items stack ≡ []

-- it has room for so many items, which is 4 to 64
pub record IsSizeOf (stack : Stack) (room : ℕ) : Type 0 where
  pub size : room ≡ stack_size stack
  pub least : 4 ≤ room
  pub most : room ≤ 64

-- the item is on top
pub record Pushes (old : Stack) (held : Held) (new : Stack) : Type 0 where
  pub items : stack_items new ≡ stack_items old ++ held ∷ []
  pub size : stack_size new ≡ stack_size old

-- it had no item, and has none
pub record WasEmpty (old new : Stack) : Type 0 where
  pub none : stack_items old ≡ []
  pub unchanged : stack_items new ≡ []
