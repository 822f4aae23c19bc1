-- Own: what the calls of an inbox answer, and what they leave.
use Rattle.std.specs.Prelude.{◌≡◌, ◌+◌, [], ◌∷◌, ◌++◌, length, Option, IfSome, IfNone, Result, IfOk, IfErr, OnOk, OnErr}
use Rattle.deed_book.specs.declared.deed.Memory.{Memory}
use Rattle.inbox.specs.declared.inbox.Inbox.{Inbox}
use Rattle.inbox.specs.declared.inbox.Port.{Port}
use Rattle.inbox.specs.declared.inbox.Taker.{Taker}
use Rattle.inbox.specs.Inbox.{InboxId, inbox_id, port_inbox, port_key, port_number, sent_by, turned_by, taker_inbox, taker_key, ports_of, popped_by, items_of}
use Rattle.inbox.specs.Rule.{Grows, AreAll}

-- an inbox with this key, of which no port is made and nothing popped
pub record MakesInbox {T K F : Type 0} (name : K) (answer : Result (Inbox T K F × Taker T K) Memory) : Type 0 where
  pub inbox : IfOk answer (λ made. taker_inbox made.1 ≡ inbox_id made.0)
  pub key : IfOk answer (λ made. taker_key made.1 ≡ name)
  pub none : IfOk answer (λ made. (ports_of made.1 ≡ 0) × (popped_by made.1 ≡ []))

module _ {T K : Type 0} where
  -- The port pushed the item, or it was turned back, and is back. The port is of the same inbox, with its number.
  pub record PushesOrNot (old : Port T K) (item : T) (answer : Result (Unit {0}) T) (new : Port T K) : Type 0 where
    pub pushed : OnOk answer (sent_by new ≡ sent_by old ++ item ∷ [])
    pub count : OnOk answer (length (sent_by new) ≡ length (sent_by old) + 1)
    pub back : IfErr answer (λ back_again. back_again ≡ item)
    pub still : OnErr answer (sent_by new ≡ sent_by old)
    pub went : OnOk answer (turned_by new ≡ turned_by old)
    pub turned : OnErr answer (turned_by new ≡ turned_by old + 1)
    pub port : (port_inbox new ≡ port_inbox old) × (port_key new ≡ port_key old) × (port_number new ≡ port_number old)

  -- The taker popped an item, which keeps the fact of the key, and is the next of its port. Or there was none. The taker is of the same inbox, and no port is made.
  pub record PopsOrNot (keeps : T → Type 0) (old : Taker T K) (answer : Option T) (new : Taker T K) : Type 0 where
    pub fits : IfSome answer (λ item. keeps item)
    pub next : IfSome answer (λ item. Grows (popped_by old) (ports_of old) item (popped_by new))
    pub popped : IfSome answer (λ item. items_of new ≡ items_of old ++ item ∷ [])
    pub empty : IfNone answer (AreAll (popped_by new))
    pub still : IfNone answer (popped_by new ≡ popped_by old)
    pub taker : (taker_inbox new ≡ taker_inbox old) × (taker_key new ≡ taker_key old) × (ports_of new ≡ ports_of old)

  -- the next port of this inbox, which pushed nothing; the taker counts it, and nothing else of it changes
  pub record OpensPort (id : InboxId) (old new : Taker T K) (opened : Port T K) : Type 0 where
    pub inbox : port_inbox opened ≡ id
    pub key : port_key opened ≡ taker_key old
    pub number : port_number opened ≡ ports_of old
    pub none : sent_by opened ≡ []
    pub ports : ports_of new ≡ ports_of old + 1
    pub popped : popped_by new ≡ popped_by old
    pub taker : (taker_inbox new ≡ taker_inbox old) × (taker_key new ≡ taker_key old)
