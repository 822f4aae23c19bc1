-- Own: what becomes of a keg behind its lock where a zone is added, gets another limit or another share of its fail book.
use Rattle.std.specs.Prelude.{◌≡◌, ◌≢◌, ◌≤◌, ◌<◌, [], ℕ, None, Some, slice_set}
use Rattle.deed_book.specs.declared.deed.Deed.{Deed}
use Rattle.deed_book.specs.declared.fail_book.FailShare.{FailShare}
use Rattle.deed_book.specs.Book.{zones_of}
use Rattle.deed_book.specs.Deed.{no_of}
use Rattle.deed_book.specs.FailShare.{share_table, causes_in}
use Rattle.uma_keg.specs.Fetched.{IsUnmoved}
use Rattle.uma_keg.specs.Keg.{rights_in, limit_in, fetches_in, HasZone, IsSameKeg}
use Rattle.uma_keg.specs.SetLimit.{SetsLimit}
use Rattle.locked_keg.specs.declared.locked_keg.KegKey.{KegKey}
use Rattle.locked_keg.specs.declared.locked_keg.LockedKeg.{LockedKeg}
use Rattle.locked_keg.specs.FailBooks.{table_at, causes_at, GivesShare}
use Rattle.locked_keg.specs.Frames.{KeepsRule}
use Rattle.locked_keg.specs.LockedKeg.{keg_in, fails_in}
use Rattle.locked_keg.specs.Rule.{Keeps}

-- a zone can have this limit, where 0 is none
pub record IsLimitFor (zone limit : ℕ) : Type 0 where
  pub below_8 : zone < 8
  pub most : limit ≤ 1000000

module _ {T K : Type 0} {g : _} {h : _} where
  -- The zone is there that the right names, with this limit, and wasn't before; the share is of its fail book and lists nothing. No other zone changes, and no item moves.
  pub record AddsZone (old : LockedKeg T K g h) (right : Deed) (most zone : ℕ) (share : FailShare) (new : LockedKeg T K g h) : Type 0 where
    pub index : zone ≡ no_of right
    pub below_8 : zone < 8
    pub was_none : HasZone (keg_in old) (no_of right) → ⊥
    pub exists : HasZone (keg_in new) (no_of right)
    pub rights : zones_of (rights_in (keg_in new)) ≡ slice_set (zones_of (rights_in (keg_in old))) (no_of right) None
    pub limit : limit_in (keg_in new) (no_of right) ≡ most
    pub limits : (other : ℕ) → other ≢ no_of right → limit_in (keg_in new) other ≡ limit_in (keg_in old) other
    pub share_empty : causes_in share ≡ []
    pub share_mine : table_at (fails_in old) (no_of right) ≡ Some (share_table share)
    pub causes : (at : ℕ) → causes_at (fails_in new) at ≡ causes_at (fails_in old) at
    pub tables : (at : ℕ) → table_at (fails_in new) at ≡ table_at (fails_in old) at
    pub fetches : (at : ℕ) → fetches_in (keg_in new) at ≡ fetches_in (keg_in old) at
    pub unmoved : IsUnmoved (keg_in old) (keg_in new)
    pub same : IsSameKeg (keg_in old) (keg_in new)
    pub keeps : (key : KegKey) → Keeps key old → Keeps key new

  -- the zone had the former limit, and has this one; nothing else changes
  pub record SetsLimitOf (old : LockedKeg T K g h) (zone limit answer : ℕ) (new : LockedKeg T K g h) : Type 0 where
    pub former : answer ≡ limit_in (keg_in old) zone
    pub set : SetsLimit (keg_in old) zone limit (keg_in new)
    pub kept : KeepsRule old new

  -- the share is of the zone's fail book and lists nothing; the keg stays
  pub record OpensShare (old : LockedKeg T K g h) (zone : ℕ) (answer : FailShare) (new : LockedKeg T K g h) : Type 0 where
    pub share : GivesShare (fails_in old) zone answer (fails_in new)
    pub keg : keg_in new ≡ keg_in old
    pub keeps : (key : KegKey) → Keeps key old → Keeps key new
