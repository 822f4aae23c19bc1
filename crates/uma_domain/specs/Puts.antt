-- Own: a bucket that comes to a domain is listed as the newest of its kind, or comes back.
use Rattle.std.specs.Prelude.{◌≡◌, ◌<◌, ◌≤◌, ◌+◌, ◌^◌, ◌⊎◌, ℕ, List, [], ◌∷◌, ◌++◌, Result, is_ok, if◌then◌else◌, IfErr, OnOk, OnErr}
use Rattle.std.specs.VecDeque.{deque_len, deque_capacity}
use Rattle.inbox.specs.declared.inbox.Port.{Port}
use Rattle.inbox.specs.Inbox.{sent_by}
use Rattle.uma_bucket.specs.declared.shelved.InboxKey.{InboxKey}
use Rattle.uma_bucket.specs.declared.shelved.Shelved.{Shelved}
use Rattle.uma_bucket.specs.Inboxes.{port_origin}
use Rattle.uma_domain.specs.declared.lists.Lists.{Lists}
use Rattle.uma_domain.specs.declared.lists.Working.{Working}
use Rattle.uma_domain.specs.Identity.{Identity, origin_of}
use Rattle.uma_domain.specs.Lists.{working_in}
use Rattle.uma_domain.specs.Working.{after}

-- A bucket of so many items is behind those of its kind, or it comes back, and the list and the counts are as they were. It comes back where 2^32 items or more would be listed, and else only where there was no room.
pub record ListsNewest {B : Type 0} (bucket : B) (len : ℕ) (NoRoom : Type 0) (was : List B) (w : Working) (result : Result (Unit {0}) B) (is : List B) (w' : Working) : Type 0 where
  pub newest : is ≡ (if is_ok result then was ++ bucket ∷ [] else was)
  pub working : w' ≡ (if is_ok result then after w (w.count + len) else w)
  pub back : IfErr result (λ b. b ≡ bucket)
  pub few : OnOk result (w.count + len < 2 ^ 32)
  pub full : OnErr result (w.count + len < 2 ^ 32 → NoRoom)

-- The bucket comes to the lists, as is said of it, or it comes back.
pub record PutsOrReturns {B : Type 0} (Puts : B → Type 0) (bucket : B) (result : Result (Unit {0}) B) : Type 0 where
  pub back : IfErr result (λ b. b ≡ bucket)
  pub put : OnOk result (Puts bucket)

module _ {T H P : Type 0} {g h : _} where
  -- there is no room for one more plain bucket
  abbrev pub IsPlainFull : Lists T H P g h → Type 0
  IsPlainFull lists = deque_capacity lists.plain ≤ deque_len lists.plain

  -- there is none for one more sealed bucket beside the loose ones, for which room is kept
  abbrev pub IsSealedFull : Lists T H P g h → Type 0
  IsSealedFull lists = deque_capacity lists.sealed < deque_len lists.sealed + (deque_len lists.loose + 1)

  -- there is none for one more loose bucket, or none to seal it later
  abbrev pub IsLooseFull : Lists T H P g h → Type 0
  IsLooseFull lists = (deque_capacity lists.loose ≤ deque_len lists.loose) ⊎ IsSealedFull lists

  -- there is room for one more bucket of any kind, of 64 items at most
  pub record HasRoom (lists : Lists T H P g h) : Type 0 where
    pub few : (working_in lists).count + 64 < 2 ^ 32
    pub plain_room : deque_len lists.plain < deque_capacity lists.plain
    pub loose_room : deque_len lists.loose < deque_capacity lists.loose
    pub sealed_room : deque_len lists.sealed + (deque_len lists.loose + 1) ≤ deque_capacity lists.sealed

  -- the port is of the domain's inbox, and pushed nothing
  pub record IsNewPort (identity : Identity) (port : Port (Shelved T H P g h) (InboxKey H P)) : Type 0 where
    pub origin : port_origin port ≡ origin_of identity
    pub none : sent_by port ≡ []
