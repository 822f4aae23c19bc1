-- Own: a connection that a worker holds, and the place of one among several.
use Rattle.std.specs.Prelude.{◌≡◌, ◌==◌, ℕ, List, Bool, Option, Some}
use Rattle.std.specs.List.{position}
use Rattle.uma.specs.Data.{data_of}
use Rattle.example_server.specs.declared.connections.Held.{Held}

-- the connection is open, to the peer that is named
abbrev pub IsOpen : Held → Type 0
IsOpen held = (data_of held.item).peer ≡ Some held.peer

-- the connection is held for the session
abbrev pub is_of : ℕ → Held → Bool
is_of session held = held.session == session

-- where the first stands that is held for the session, if there is one
abbrev pub first_of : ℕ → List Held → Option ℕ
first_of session all = position (is_of session) all
