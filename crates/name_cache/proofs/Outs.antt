-- What a bind or an unbind takes out of a row, once it is stamped, or written.
use Rattle.std.proofs.Common.{◌≡◌, ℕ, ◌+◌, Option, Some, None, ◌∙◌, ap, refl}
use Rattle.std.proofs.lemmas.Option.{none-some, same_Some}
use Rattle.smr_clock.specs.declared.clock.Setup.{Setup}
use Rattle.smr_clock.specs.Belongs.{TableId}
use Rattle.uma_bucket.specs.Home.{Home}
use Rattle.name_rows.specs.declared.entry.Entry.{Entry}
use Rattle.name_rows.specs.declared.entry.EntryState.TheVariants.{Stamped}
use Rattle.name_rows.specs.declared.root.Guest.{Guest}
use Rattle.name_rows.specs.declared.entry.Owned.{Owned}
use Rattle.name_rows.specs.declared.words.Words.{Words}
use Rattle.name_rows.specs.Entries.{OnWords, guest_with}
use Rattle.name_rows.specs.Guests.{bound_of, content_of}
use Rattle.name_rows.specs.Records.{owned_as}
use Rattle.name_rows.specs.Ripening.{StampsAt}
use Rattle.name_rows.specs.Roots.{kept_in}
use Rattle.name_rows.specs.Writing.{Writes}
use Rattle.name_cache.specs.declared.parts.EntryParts.{EntryParts}
use Rattle.name_cache.specs.declared.binding.Rebound.TheVariants.{Done}
use Rattle.name_cache.specs.declared.binding.Receipt.{Receipt}
use Rattle.name_cache.specs.LockedRow.{IsOut, IsStamped, IsOutStamped, HasItemOf}
use Rattle.name_cache.proofs.Linked.{item_still}

-- a stamped entry has the words that it had, and a stamp
pub stamped_words : (e : Entry) (words after : Option Words) (g : Guest) → guest_with e words ≡ Some g → OnWords StampsAt words after → (goal : ℕ) × (kept_in after ≡ Some (owned_as (bound_of g) (Stamped goal)))
stamped_words e None after g is stamps = absurd (none-some g is)
stamped_words e (Some w) None g is stamps = absurd stamps
stamped_words e (Some w) (Some x) g is stamps =
    let same = same_Some (record { no = w.kept.entry; phase = e.phase; tally = e.tally; key = w.kept.key; value = w.kept.value }) g is in
    (stamps.write + 2, ap (λ (o : Owned). Some o) (stamps.kept ∙ ap (λ (q : Guest). owned_as (bound_of q) (Stamped (stamps.write + 2))) same))

pub written_guest : (e : Entry) (key value : ℕ) (words after : Option Words) → OnWords (Writes key value) words after → (g : Guest) × (guest_with e after ≡ Some g) × (g.key ≡ key) × (g.value ≡ value)
written_guest e key value None after writes = absurd writes
written_guest e key value (Some w) None writes = absurd writes
written_guest e key value (Some w) (Some x) writes = (
  record { no = x.kept.entry; phase = e.phase; tally = e.tally; key = x.kept.key; value = x.kept.value },
  refl,
  ap (λ (o : Owned). o.key) writes,
  ap (λ (o : Owned). o.value) writes,
)

-- ---- what a row gave out, with a stamp

pub out_stamped : (id : TableId × Setup) (home : Home) (guest : Option Guest) (raw out : Option EntryParts) → IsOut id home guest raw → IsStamped raw out → IsOutStamped (content_of guest) out
out_stamped id home None None None was is = tt
out_stamped id home None None (Some o) was is = absurd is
out_stamped id home None (Some r) out was is = absurd was
out_stamped id home (Some g) None out was is = absurd was
out_stamped id home (Some g) (Some r) None was is = absurd is
out_stamped id home (Some g) (Some r) (Some o) was is = stamped_words r.entry r.entry.words o.entry.words g was.0 is.0

pub out_item : (id : TableId × Setup) (home : Home) (guest : Option Guest) (raw out : Option EntryParts) (receipt : Receipt) → IsOut id home guest raw → IsStamped raw out → HasItemOf id home (Done receipt out)
out_item id home None None None receipt was is = tt
out_item id home None None (Some o) receipt was is = absurd is
out_item id home None (Some r) out receipt was is = absurd was
out_item id home (Some g) None out receipt was is = absurd was
out_item id home (Some g) (Some r) None receipt was is = absurd is
out_item id home (Some g) (Some r) (Some o) receipt was is = item_still id home r o is.1 was.2
