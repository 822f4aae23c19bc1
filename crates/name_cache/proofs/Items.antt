-- An entry as its row has it, and as an item in its parts.
use Rattle.std.proofs.Common.{◌≡◌, Option, Some, None, ◌∙◌, sym, ap}
use Rattle.std.proofs.lemmas.Option.{none-some, same_Some}
use Rattle.name_rows.specs.declared.entry.Entry.{Entry}
use Rattle.name_rows.specs.declared.root.Guest.{Guest}
use Rattle.name_rows.specs.declared.words.Words.{Words}
use Rattle.name_rows.specs.Entries.{entry_life, guest_with}
use Rattle.name_rows.specs.EntryWords.{words_no}
use Rattle.name_cache.specs.LinkedItem.{guest_life}

-- the life of a guest is that of its entry
pub guest_lives : (e : Entry) (words : Option Words) (g : Guest) → guest_with e words ≡ Some g → words_no e.no words ≡ e.no → entry_life e ≡ guest_life g
guest_lives e None g is numbered = absurd (none-some g is)
guest_lives e (Some w) g is numbered =
    let same = same_Some (record { no = w.kept.entry; phase = e.phase; tally = e.tally; key = w.kept.key; value = w.kept.value }) g is in
    (λ k. record { no = sym numbered k; phase = e.phase; tally = e.tally }) ∙ ap guest_life same
