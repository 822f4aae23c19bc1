-- Own: what contracts see of the lists under a domain's lock.
use Rattle.std.specs.Prelude.{◌≡◌, ◌<◌, ◌^◌, ℕ, List, [], ◌∷◌, ◌++◌, length}
use Rattle.deed_book.specs.declared.fail_book.FailBook.{FailBook}
use Rattle.deed_book.specs.declared.fail_book.FailShare.{FailShare}
use Rattle.deed_book.specs.FailBook.{fail_book_table, causes_of}
use Rattle.deed_book.specs.FailShare.{causes_in, share_table}
use Rattle.deed_book.specs.FailViews.{cause}
use Rattle.uma_bucket.specs.declared.bucket.Bucket.{Bucket}
use Rattle.uma_bucket.specs.declared.freed.Loose.{Loose}
use Rattle.uma_bucket.specs.declared.freed.Sealed.{Sealed}
use Rattle.uma_domain.specs.declared.lists.Lists.{Lists}
use Rattle.uma_domain.specs.declared.lists.Working.{Working}
use Rattle.uma_domain.specs.Identity.{Identity, key_identity}
use Rattle.uma_domain.specs.Listed.{listed}
use Rattle.uma_domain.specs.Working.{begun}

module _ {T H P : Type 0} {g h : _} where
  -- which domain it is
  abbrev pub lists_identity : Lists T H P g h → Identity
  lists_identity lists = key_identity lists.key.value

  -- the buckets, the oldest first
  abbrev pub plain_in : Lists T H P g h → List (Bucket T g)
  plain_in lists = lists.plain.items

  abbrev pub loose_in : Lists T H P g h → List (Loose T g)
  loose_in lists = lists.loose.items

  abbrev pub sealed_in : Lists T H P g h → List (Sealed T H P g h)
  sealed_in lists = lists.sealed.items

  -- how many items are listed, and the least and the greatest such count since the last trim
  abbrev pub working_in : Lists T H P g h → Working
  working_in lists = lists.working

  -- how many looks found nothing
  abbrev pub missed_in : Lists T H P g h → ℕ
  missed_in lists = length lists.missed

  -- they are of this domain, empty, and nothing was counted
  pub record AreNew (own : Identity) (lists : Lists T H P g h) : Type 0 where
    pub identity : lists_identity lists ≡ own
    pub empty : (plain_in lists ≡ []) × (loose_in lists ≡ []) × (sealed_in lists ≡ [])
    pub working : working_in lists ≡ begun 0
    pub missed : missed_in lists ≡ 0

  -- so many items are listed, fewer than 2^32
  pub record HasItems (lists : Lists T H P g h) (many : ℕ) : Type 0 where
    pub count : many ≡ (working_in lists).count
    pub all : many ≡ listed (plain_in lists) (loose_in lists) (sealed_in lists)
    pub few : many < 2 ^ 32

-- The book is the domain's book of misses, and has counted none.
pub record IsUnusedBook (identity : Identity) (misses : FailBook) : Type 0 where
  pub book : fail_book_table misses ≡ identity.misses
  pub none : causes_of misses ≡ []

-- One more miss is in the share, whose book is the same.
pub record IsRaised (was is : FailShare) : Type 0 where
  pub causes : causes_in is ≡ causes_in was ++ cause 0 0 0 ∷ []
  pub table : share_table is ≡ share_table was
