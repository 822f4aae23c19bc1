-- Own: what each answer to a request says of what was done.
use Rattle.std.specs.Prelude.{◌≡◌, ◌⊎◌, ℕ, Some, None, IfSome, IfNone}
use Rattle.uma.specs.Directory.{BindsName, FindsNone, IsLate, LooksUp, RefusesBind, RefusesUnbind, StillKnows, TakesOut, WasBound, directory_of, known_to}
use Rattle.uma.specs.Local.{IsNotReady}
use Rattle.example_server.specs.declared.desk.Answer.{Answer}
use Rattle.example_server.specs.declared.desk.Answer.TheVariants.{Opened, Unnamed, Refused, Closed, Kept, NotHeld, Found, NotFound, Late}
use Rattle.example_server.specs.declared.desk.Desk.{Desk}
use Rattle.example_server.specs.declared.desk.Request.{Request}
use Rattle.example_server.specs.declared.desk.Request.TheVariants.{Open, Close, Look}
use Rattle.example_server.specs.Connections.{Closes, KeepsPlace, KeepsPool, Opens, RefusesOpen, held_in}
use Rattle.example_server.specs.Held.{first_of}

-- It is of the same pool and the same directory, and what it knew of that it still knows.
pub record Stays (old new : Desk) : Type 0 where
  pub pool : KeepsPlace old.connections new.connections
  pub directory : directory_of new.names ≡ directory_of old.names
  pub still : StillKnows old.names new.names

-- nothing was asked of the directory
abbrev pub KeepsDirectory : Desk → Desk → Type 0
KeepsDirectory old new = new.names ≡ old.names

-- The answer is one to this request, and this is so:
-- 1. A request to open ends with an open connection, whose name is bound, or isn't for the directory's reason; or the pool refused it, and nothing was asked of the directory.
-- 2. A request to close ends with the first connection of the session closed, and the name out, if it was bound; or with nothing changed, where none is held; or the connection is held still, as the pool wasn't ready, or the directory took no name out.
-- 3. A look changes no connection, and ends as the directory says: what it found was bound to that very session.
abbrev pub Ends : Request → Answer → Desk → Desk → Type 0
Ends (Open session peer) (Opened connection) old new = Opens session peer connection old.connections new.connections × BindsName session connection old.names new.names × WasBound session connection (known_to new.names)
Ends (Open session peer) (Unnamed connection why) old new = Opens session peer connection old.connections new.connections × RefusesBind session old.names new.names why
Ends (Open session peer) (Refused why) old new = RefusesOpen peer old.connections new.connections why × KeepsDirectory old new
Ends (Close session) (Closed named) old new = ((place : ℕ) × (first_of session (held_in old.connections) ≡ Some place) × Closes place old.connections new.connections) × IfSome named (λ connection. TakesOut session connection old.names new.names) × IfNone named (FindsNone session old.names new.names)
Ends (Close session) (Kept why) old new = KeepsPool old.connections new.connections × ((IsNotReady old.connections.local why × KeepsDirectory old new) ⊎ RefusesUnbind old.names new.names why)
Ends (Close session) NotHeld old new = (first_of session (held_in old.connections) ≡ None) × (new ≡ old)
Ends (Look session) (Found connection) old new = (new.connections ≡ old.connections) × WasBound session connection (known_to new.names) × LooksUp session (Some connection) old.names new.names
Ends (Look session) NotFound old new = (new.connections ≡ old.connections) × LooksUp session None old.names new.names
Ends (Look session) (Late why) old new = (new.connections ≡ old.connections) × IsLate old.names new.names why
Ends request answer old new = ⊥
