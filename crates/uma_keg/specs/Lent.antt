-- Own: the live items that are lent to a census, and what stays of one when its deed is taken in and issued again.
use Rattle.std.specs.Prelude.{◌≡◌, ℕ, ◌==◌, List, [], ◌∷◌, ◌++◌, Option, None, map, count_by, reverse, slice_set}
use Rattle.deed_book.specs.declared.deed.Deed.{Deed}
use Rattle.deed_book.specs.Deed.{BookId, deed_table, no_of, zone_of}
use Rattle.deed_book.specs.BookLaw.{IsOutside}
use Rattle.uma_life.specs.declared.states.Live.{Live}
use Rattle.uma_life.specs.Live.{live_body, live_ticket, live_no, live_zone, live_domain, live_table}
use Rattle.uma_life.specs.Ticket.{ticket_deed}
use Rattle.uma_keg.specs.declared.home_items.Undeeded.{Undeeded}

-- a live item but for which token its deed is
pub record Seen (T : Type 0) : Type 0 where
  pub body : T
  pub no : ℕ
  pub zone : ℕ
  pub domain : ℕ
  pub table : BookId

abbrev pub seen_of : {T : Type 0} {g : _} → Live T g → Seen T
seen_of item = record { body = live_body item; no = live_no item; zone = live_zone item; domain = live_domain item; table = live_table item }

-- what is seen of the items of a list, in order
abbrev pub all_seen : {T : Type 0} {g : _} → List (Live T g) → List (Seen T)
all_seen items = map seen_of items

-- how many items of a list are of a zone
abbrev pub lent_of : {T : Type 0} {g : _} → List (Live T g) → ℕ → ℕ
lent_of items zone = count_by (λ item. live_zone item == zone) items

-- the number and the zone of a live item
abbrev pub deed_of : {T : Type 0} {g : _} → Live T g → ℕ × ℕ
deed_of item = (live_no item, live_zone item)

-- an item without its deed, of a book
abbrev pub seen_without : {T : Type 0} {g : _} → BookId → Undeeded T g → Seen T
seen_without table item = record { body = item.body; no = item.no; zone = item.zone; domain = item.domain; table = table }

-- an item without its deed may have one of this book: it is of the book's origin
abbrev pub IsWithoutOf : {T : Type 0} {g : _} → BookId → Undeeded T g → Type 0
IsWithoutOf {g = g} table item = g.origin item.body ≡ table.origin

-- the number and the zone of the deed that it had
abbrev pub deed_without : {T : Type 0} {g : _} → Undeeded T g → ℕ × ℕ
deed_without item = (item.no, item.zone)

-- the deeds of a list were taken in, one after another: each was outside
abbrev pub TakesIn : List (Option ℕ) → List (ℕ × ℕ) → List (Option ℕ) → Type 0
TakesIn zones [] now = now ≡ zones
TakesIn zones (deed ∷ deeds) now = IsOutside zones deed × TakesIn (slice_set zones deed.0 None) deeds now

-- the items that have their deeds, and then those that haven't, the last taken first
abbrev pub together : {T : Type 0} {g : _} → BookId → List (Live T g) → List (Undeeded T g) → List (Seen T)
together table items taken = all_seen items ++ reverse (map (seen_without table) taken)

-- a live item parts from its deed
pub record PartsFrom {T : Type 0} {g : _} (item : Live T g) (without : Undeeded T g) (token : Deed) : Type 0 where
  pub seen : seen_without (live_table item) without ≡ seen_of item
  pub deed : token ≡ ticket_deed (live_ticket item)
  pub origin : IsWithoutOf (live_table item) without

-- the number and the zone of a deed
abbrev pub number_and_zone : Deed → ℕ × ℕ
number_and_zone deed = (no_of deed, zone_of deed)

-- the deed is as the one that the item had, and of a book that the item may be of
pub record MayHave {T : Type 0} {g : _} (deed : Deed) (item : Undeeded T g) : Type 0 where
  pub numbers : number_and_zone deed ≡ deed_without item
  pub origin : IsWithoutOf (deed_table deed) item
