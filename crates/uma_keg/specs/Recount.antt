-- Own: how the deeds of live items are taken in, and issued again.
use Rattle.std.specs.Prelude.{◌≡◌, ◌≤◌, ℕ, List, [], Option, All, Vec, map, vec_len, reverse}
use Rattle.std.specs.declared.alloc.Global.{Global}
use Rattle.std.specs.Vec.{vec_capacity}
use Rattle.deed_book.specs.BookLaw.{IsOutside}
use Rattle.uma_life.specs.declared.states.Live.{Live}
use Rattle.uma_life.specs.Live.{live_table}
use Rattle.uma_keg.specs.declared.home_items.Outside.{Outside}
use Rattle.uma_keg.specs.declared.home_items.Undeeded.{Undeeded}
use Rattle.uma_keg.specs.Outs.{out_of}
use Rattle.uma_keg.specs.Outside.{outside_zones, outside_table}
use Rattle.uma_keg.specs.Lent.{all_seen, lent_of, deed_of, deed_without, seen_without, together, TakesIn, IsWithoutOf}

-- which numbers are outside, and the book of them, are as they were
pub record KeepsOutside (old new : Outside) : Type 0 where
  pub zones : outside_zones new ≡ outside_zones old
  pub table : outside_table new ≡ outside_table old

-- The items are back as they were seen. Each was outside, and no zone has fewer numbers outside than there are items of it.
pub record Recounts {T : Type 0} {g : _} (zones : List (Option ℕ)) (lives back : List (Live T g)) : Type 0 where
  pub items : all_seen back ≡ all_seen lives
  pub were_outside : All (λ item. IsOutside zones (deed_of item)) lives
  pub lent : (zone : ℕ) → lent_of lives zone ≤ out_of zones zone

-- the items are of this book, none was taken yet, and there is room for them
pub record MayTakeIn {T : Type 0} {g : _} (outside : Outside) (items : Vec (Live T g) Global) (taken : Vec (Undeeded T g) Global) : Type 0 where
  pub table : All (λ item. live_table item ≡ outside_table outside) items.items
  pub none : taken.items ≡ []
  pub room : vec_len items ≤ vec_capacity taken

-- each item's deed was taken in, the last one first; the list that they were in has room for them still
pub record TakesDeeds {T : Type 0} {g : _} (old new : Outside) (lives left : Vec (Live T g) Global) (without : Vec (Undeeded T g) Global) : Type 0 where
  pub none_left : left.items ≡ []
  pub room : vec_len without ≤ vec_capacity left
  pub items : together (outside_table old) left.items without.items ≡ all_seen lives.items
  pub origins : All (IsWithoutOf (outside_table old)) without.items
  pub taken : TakesIn (outside_zones old) (map deed_without without.items) (outside_zones new)
  pub table : outside_table new ≡ outside_table old

-- these deeds were taken in since, the items may be of this book, and there is room for them
pub record MayIssueAgain {T : Type 0} {g : _} (before now : Outside) (without : Vec (Undeeded T g) Global) (lives : Vec (Live T g) Global) : Type 0 where
  pub taken : TakesIn (outside_zones before) (map deed_without without.items) (outside_zones now)
  pub origins : All (IsWithoutOf (outside_table now)) without.items
  pub none : lives.items ≡ []
  pub room : vec_len without ≤ vec_capacity lives

-- each item has a deed again, and the numbers outside are those before
pub record IssuesAgain {T : Type 0} {g : _} (before old new : Outside) (without : List (Undeeded T g)) (lives : List (Live T g)) : Type 0 where
  pub items : all_seen lives ≡ reverse (map (seen_without (outside_table old)) without)
  pub zones : outside_zones new ≡ outside_zones before
  pub table : outside_table new ≡ outside_table old
