-- Own: what a keg's key names.
use Rattle.std.specs.Prelude.{◌≡◌, ℕ, Option}
use Rattle.deed_book.specs.Deed.{BookId, TableId}
use Rattle.deed_book.specs.Book.{book_table}
use Rattle.uma_keg.specs.declared.keg.Keg.{Keg}
use Rattle.uma_keg.specs.Keg.{places_in, table_in, rights_in, size_in, reserve_in}
use Rattle.locked_keg.specs.declared.locked_keg.KegKey.{KegKey}
use Rattle.locked_keg.specs.FailBooks.{table_at}

-- the book of its item numbers
abbrev pub key_numbers : KegKey → BookId
key_numbers key = book_table key.numbers.value

-- the book of its rights to a zone
abbrev pub key_rights : KegKey → BookId
key_rights key = book_table key.rights.value

-- the fail book of a zone
abbrev pub key_fails : KegKey → ℕ → Option TableId
key_fails key zone = table_at key.fails.value zone

-- the key names this keg, whose slabs are of so many domains
pub record IsKeyOf {T K : Type 0} {g : _} {h : _} (keg : Keg T K g h) (domains : ℕ) (key : KegKey) : Type 0 where
  pub numbers : key_numbers key ≡ table_in keg
  pub rights : key_rights key ≡ book_table (rights_in keg)
  pub size : key.size ≡ size_in keg
  pub cap : key.cap ≡ (places_in keg).cap
  pub reserve : key.reserve ≡ reserve_in keg
  pub domains_kept : key.domains ≡ domains
