-- A new keg keeps the law of kegs.
use Rattle.std.proofs.Common.{◌≡◌, ◌*◌, ℕ, false, List, [], ◌∷◌, Option, Some, None, is_some, length, replicate, refl, inl, inr, sym, ap, ◌∙◌}
use Rattle.std.proofs.lemmas.Bool.{cases_lt}
use Rattle.std.proofs.lemmas.List.{get_or-replicate, get_or_past, length-replicate}
use Rattle.uma_keg.specs.declared.home_items.HomeItems.{HomeItems}
use Rattle.uma_slabs.specs.Places.{KegPlaces, IsNew}
use Rattle.uma_keg.specs.HomeItems.{item_at, has_slab, slab_room, places_each}
use Rattle.uma_keg.specs.KegLaw.{PlacesLaw, ZonesLaw, zone_at, is_used_place, is_free_place}
use Rattle.uma_keg.proofs.Outs.{out_none}

nowhere : (numbers n : ℕ) → zone_at (replicate numbers None) n ≡ None
nowhere numbers n = elim (cases_lt n numbers) [
  | inl within ↦ get_or-replicate numbers n None None within
  | inr past ↦ get_or_past (replicate numbers None) n None (rw (length-replicate {A = Option ℕ} numbers None) past)
]

pub PlacesLaw-new : {T : Type 0} {g : _} (p cap : ℕ) (places : KegPlaces) (zones : List (Option ℕ)) (home_items : HomeItems T g) → IsNew p cap places → zones ≡ replicate (places.cap * places.per_slab) None
    → slab_room home_items ≡ places.cap → places_each home_items ≡ places.per_slab → ((index : ℕ) → has_slab home_items index ≡ false) → ((n : ℕ) → item_at home_items n ≡ None) → PlacesLaw places zones home_items
PlacesLaw-new p cap places zones home_items new out count each none gone = record {
  per_slab = each;
  cap = count;
  numbers = ap length out ∙ length-replicate {A = Option ℕ} (places.cap * places.per_slab) None;
  slabs = λ index. none index ∙ sym (ap is_some (new.absent index));
  outside = λ n. ap is_some (ap (λ zs. zone_at zs n) out ∙ nowhere (places.cap * places.per_slab) n) ∙ sym (ap is_used_place (new.nowhere n));
  home = λ n. ap is_some (gone n) ∙ sym (ap is_free_place (new.nowhere n));
  numbered = λ n item is. absurd (cc (gone n, is));
}

pub ZonesLaw-new : (numbers : ℕ) (zones rights : List (Option ℕ)) → zones ≡ replicate numbers None → rights ≡ replicate 8 (Some 0) → ZonesLaw zones rights (0 ∷ 0 ∷ 0 ∷ 0 ∷ 0 ∷ 0 ∷ 0 ∷ 0 ∷ [])
ZonesLaw-new numbers zones rights out away = rw (out, away) (record {
  eight_rights = refl;
  eight_limits = refl;
  absent = λ zone below home. out_none numbers zone;
})
