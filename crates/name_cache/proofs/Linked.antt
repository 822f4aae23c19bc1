-- The entry that a row names, with what the row keeps of it, and an entry that came out of its row.
use Rattle.std.proofs.Common.{◌≡◌, true, false, Option, Some, None, IfSome, is_some, ◌∙◌, sym, ap, subst, refl}
use Rattle.std.proofs.lemmas.Bool.{false≢true}
use Rattle.std.proofs.lemmas.Option.{none-some, same_Some}
use Rattle.std.specs.Arc.{arc_value}
use Rattle.smr_clock.specs.declared.clock.Clock.{Clock}
use Rattle.smr_clock.specs.declared.clock.Setup.{Setup}
use Rattle.smr_clock.specs.Belongs.{TableId, clock_id}
use Rattle.uma_life.specs.Life.{Life}
use Rattle.uma_life.specs.Ticket.{ticket_zone}
use Rattle.uma_life.specs.Trail.{IsAt}
use Rattle.uma_life.specs.declared.tally.BodyPhase.TheVariants.{Built}
use Rattle.uma_life.specs.declared.states.Ticket.{Ticket}
use Rattle.uma_bucket.specs.Home.{Home, IsHome}
use Rattle.name_rows.specs.declared.entry.Entry.{Entry}
use Rattle.name_rows.specs.declared.root.Guest.{Guest}
use Rattle.name_rows.specs.declared.names.Names.{Names}
use Rattle.name_rows.specs.declared.names.Part.{Part}
use Rattle.name_rows.specs.Entries.{IsEntryOf, entry_life, entry_state, guest_of}
use Rattle.name_rows.specs.Rows.{IsEvicted}
use Rattle.name_cache.specs.Homes.{home_clock}
use Rattle.name_cache.specs.declared.locked_row.LinkedItem.{LinkedItem}
use Rattle.name_cache.specs.declared.parts.EntryParts.{EntryParts}
use Rattle.name_cache.specs.LinkedItem.{guest_life, IsLinkedAs, FitsItem}
use Rattle.name_cache.specs.declared.binding.Rebound.TheVariants.{Done}
use Rattle.name_cache.specs.declared.binding.Receipt.{Receipt}
use Rattle.name_cache.specs.LockedRow.{IsItemOf, HasItemOf, IsOut}
use Rattle.name_cache.specs.Parts.{IsSameItem}
use Rattle.name_cache.proofs.Clocks.{ours_too}
use Rattle.name_cache.proofs.Items.{guest_lives}

-- an entry that is out of its row goes with what the row kept of it
pub fits_item : (clock : Clock Names Part) (id : TableId × Setup) (home : Home) (guest : Guest) (item : LinkedItem) (entry : Entry) → clock_id clock ≡ id → IsLinkedAs id home guest item → IsEntryOf clock entry → guest_of entry ≡ Some guest → FitsItem entry item
fits_item clock id home guest item entry same linked here is =
    let life : entry_life entry ≡ guest_life guest = guest_lives entry entry.words guest is entry.numbered in
    record {
      ours = ours_too clock (home_clock (arc_value item.home)) (same ∙ sym linked.of_clock) entry.words here;
      numbered = ap (λ (l : Life). l.no) life ∙ linked.numbered;
      built = subst (λ (l : Life). IsAt (Built (ticket_zone item.ticket)) l) (sym life) linked.built;
      of_origin = linked.of_origin;
    }

-- the same, where the row gave out an entry or none
pub fits_out : (clock : Clock Names Part) (id : TableId × Setup) (home : Home) (guest : Option Guest) (entry : Option Entry) (item : Option LinkedItem) → clock_id clock ≡ id
    → ((g : Guest) (i : LinkedItem) → guest ≡ Some g → item ≡ Some i → IsLinkedAs id home g i) → IfSome entry (λ e. IsEntryOf clock e) → IsEvicted guest entry
    → (one : Entry) (other : LinkedItem) → entry ≡ Some one → item ≡ Some other → FitsItem one other
fits_out clock id home None None item same fits here out one other is kept = absurd (none-some one is)
fits_out clock id home None (Some e) item same fits here out one other is kept = absurd out
fits_out clock id home (Some g) None item same fits here out one other is kept = absurd out
fits_out clock id home (Some g) (Some e) item same fits here out one other is kept =
    subst (λ (x : Entry). FitsItem x other) (same_Some e one is) (fits_item clock id home g other e same (fits g other refl kept) here out.0)

-- ---- whether there is one

pub none_of : {A : Type 0} (o : Option A) → is_some o ≡ false → o ≡ None
none_of None none = refl
none_of (Some x) none = absurd (false≢true (sym none))

pub on_some : {A P : Type 0} (o : Option A) → is_some o ≡ true → IfSome o (λ _. P) → P
on_some None some so = absurd (false≢true some)
on_some (Some x) some so = so

pub evicted_both : (guest : Option Guest) (entry : Option Entry) → IsEvicted guest entry → is_some guest ≡ is_some entry
evicted_both None None out = refl
evicted_both None (Some e) out = absurd out
evicted_both (Some g) None out = absurd out
evicted_both (Some g) (Some e) out = refl

-- ---- an entry that came out

pub is_out : (id : TableId × Setup) (home : Home) (guest : Option Guest) (entry : Option Entry) (item : Option LinkedItem) (out : Option EntryParts) → IsEvicted guest entry → is_some item ≡ is_some entry
    → ((g : Guest) (i : LinkedItem) → guest ≡ Some g → item ≡ Some i → IsLinkedAs id home g i) → is_some out ≡ is_some entry
    → IfSome out (λ parts. (entry ≡ Some parts.entry) × ((other : LinkedItem) → item ≡ Some other → (parts.home ≡ other.home) × (parts.ticket ≡ other.ticket))) → IsOut id home guest out
is_out id home None None item None evicted both fits so some = tt
is_out id home None None item (Some p) evicted both fits so some = absurd (false≢true (sym so))
is_out id home None (Some e) item out evicted both fits so some = absurd evicted
is_out id home (Some g) None item out evicted both fits so some = absurd evicted
is_out id home (Some g) (Some e) None out evicted both fits so some = absurd (false≢true both)
is_out id home (Some g) (Some e) (Some i) None evicted both fits so some = absurd (false≢true so)
is_out id home (Some g) (Some e) (Some i) (Some p) evicted both fits so some =
    let same : e ≡ p.entry = same_Some e p.entry some.0 in
    let kept = some.1 i refl in
    let linked = fits g i refl refl in (
      ap guest_of (sym same) ∙ evicted.0,
      ap entry_state (sym same) ∙ evicted.1,
      (ap (λ (h : _). clock_id (home_clock (arc_value h))) kept.0 ∙ linked.of_clock, subst (λ (t : Ticket). IsHome home t) (sym kept.1) linked.at_home),
    )

pub none_out : (id : TableId × Setup) (home : Home) (guest : Option Guest) → is_some guest ≡ false → IsOut id home guest None
none_out id home None none = tt
none_out id home (Some g) none = absurd (false≢true (sym none))

pub out_of : (id : TableId × Setup) (home : Home) (guest : Option Guest) (parts : EntryParts) → IsOut id home guest (Some parts) → IsItemOf id home parts
out_of id home None parts out = absurd out
out_of id home (Some g) parts out = out.2

-- an item is where it was
pub item_still : (id : TableId × Setup) (home : Home) (was is : EntryParts) → IsSameItem was is → IsItemOf id home was → IsItemOf id home is
item_still id home was is same of = (ap (λ (h : _). clock_id (home_clock (arc_value h))) same.home ∙ of.0, subst (λ (t : Ticket). IsHome home t) (sym same.ticket) of.1)

-- ---- what a bind leaves out of the row

pub done_item : (id : TableId × Setup) (home : Home) (receipt : Receipt) (out : Option EntryParts) → HasItemOf id home (Done receipt out) → IfSome out (IsItemOf id home)
done_item id home receipt None of = tt
done_item id home receipt (Some parts) of = of
