use Rattle.std.proofs.Common.{◌≡◌, ◌≤◌, ◌+◌, ℕ, List, Option, length, reverse, ap, sym, subst, ◌∙◌, refl}
use Rattle.std.proofs.lemmas.List.{reverse-reverse}
use Rattle.std.specs.Prelude.{All, Some, slice_get}
use Rattle.std.proofs.lemmas.Option.{same_Some, slice_get_read}
use Rattle.uma_keg.specs.Lent.{all_seen}
use Rattle.uma_life.specs.Live.{live_table}
use Rattle.uma_life.specs.Sum.{sum_of}
use Rattle.uma_zone.specs.Zone.{zone_home}
use Rattle.replay_worker.specs.declared.worker.Worker.{Worker}
use Rattle.replay_worker.specs.Items.{CountedZone, LiveItem}
use Rattle.replay_rounds.specs.Slots.{all_lent, all_marks, all_refilled, in_keg, live_sum, MarksFit}
use Rattle.replay_rounds.proofs.Placed.{lent_books}
use Rattle.replay_rounds.proofs.Seen.{all_same, marks_fit}
use Rattle.replay_rounds.proofs.Sums.{all_are, all_few, same_length, sixteen}
use Rattle.replay_rounds.proofs.Taken.{Lends, Says, takes_census}
use Rattle.replay_rounds.proofs.census.take_census.Goals as goal

pub census-requires : goal.census-requires
census-requires g c =
    let head = c.args.head.now in
    let zones : List (CountedZone _ _ _) = c.args.zones.now in
    let workers : List (Worker _ _ _) = c.args.workers.now in
    let primary : CountedZone _ _ _ = c.index-zones-place.result in
    let at : slice_get zones c.args.place ≡ Some primary = slice_get_read zones (length zones) c.args.place primary refl c.requires.place c.index-zones-place.is in
    let P : LiveItem → Type 0 = λ item. live_table item ≡ (zone_home primary).book in
    let Q : List LiveItem → Type 0 = λ lives. All P lives in
    subst Q (sym (c.from_vec.ensures ∙ c.in_ok-marks.ensures.lives)) (all_are P (in_keg head.zones c.args.place) workers (lent_books head c.args.clock.now zones workers c.args.place primary c.requires.can.zones c.requires.can.fits at))

pub with_lives-tally-requires-clause-few : goal.with_lives-tally-requires-clause-few
with_lives-tally-requires-clause-few g c =
    let workers : List (Worker _ _ _) = c.args.workers.now in
    let back : List LiveItem = c.in-Ok.lives in
    let lives : List LiveItem = c.from_vec.result in
    let few = sixteen (length (all_lent (in_keg c.args.head.now.zones c.args.place) workers)) (length workers) (all_few (in_keg c.args.head.now.zones c.args.place) workers c.requires.can.few.slots) c.requires.can.few.few in
    let size = ap length c.as_slice.ensures ∙ same_length back lives c.in-Ok.ensures.items ∙ ap length (c.from_vec.ensures ∙ c.in_ok-marks.ensures.lives) in
    let P : ℕ → Type 0 = λ n. n ≤ 1048576 in
    subst P (sym size) few

pub put_all_back-requires : goal.put_all_back-requires
put_all_back-requires g c =
    let of = in_keg c.args.head.now.zones c.args.place in
    let workers : List (Worker _ _ _) = c.args.workers.now in
    let P : List (List (Option ℕ)) → Type 0 = λ marks. MarksFit marks c.lend_all.new.workers in
    let Q : List (Worker _ _ _) → Type 0 = λ now. MarksFit (all_marks of workers) now in
    subst P (sym (c.deref.ensures.value ∙ c.in_ok-marks.ensures.marks)) (subst Q (sym c.in_ok-marks.ensures.left) (marks_fit of workers c.requires.can.few.slots))

pub returns-clause-census : goal.returns-clause-census
returns-clause-census g c primary at =
    let zones : List (CountedZone _ _ _) = c.args.zones.now in
    let found : CountedZone _ _ _ = c.index-zones-place.result in
    let here : slice_get zones c.args.place ≡ Some found = slice_get_read zones (length zones) c.args.place found refl c.requires.place c.index-zones-place.is in
    let lives : List LiveItem = c.from_vec.result in
    let back : List LiveItem = c.in-Ok.lives in
    let says = c.in-Ok.ensures in
    let lends : Lends c.args.head.now c.args.clock.now zones c.args.workers.now c.args.place lives = record { head_fits = c.requires.can.head; are = c.requires.can.zones; fits = c.requires.can.fits; lent = c.from_vec.ensures ∙ c.in_ok-marks.ensures.lives } in
    let own : Says found lives c.in-Ok.census = record { counts = record { table = says.table; cap = says.cap; reserve = says.reserve; per_slab = says.per_slab; absent = says.absent }; lent = says.lent } in
    let P : CountedZone _ _ _ → Type 0 = λ zone. Says zone lives c.in-Ok.census in
    takes_census c.args.head.now c.args.clock.now zones c.args.workers.now c.args.place primary c.in-Ok.census c.with_lives-tally.result lives back lends (subst P (same_Some found primary (sym here ∙ at)) own) says.items
    (λ hook. c.with_lives-tally.ensures hook ∙ (λ i. sum_of (c.tally.ensures.tally i) hook + live_sum hook (c.as_slice.ensures i)))

pub returns-clause-workers : goal.returns-clause-workers
returns-clause-workers g c =
    let of = in_keg c.args.head.now.zones c.args.place in
    let workers : List (Worker _ _ _) = c.args.workers.now in
    let back : List LiveItem = c.in-Ok.lives in
    let lent = c.in_ok-marks.ensures in
    let given : reverse c.reverse.new.self.items ≡ back = ap reverse (c.reverse.ensures.items ∙ ap reverse c.into_vec-lives.ensures) ∙ reverse-reverse back in
    let seen : all_seen back ≡ all_seen (all_lent of workers) = c.in-Ok.ensures.items ∙ ap (λ l. all_seen l) (c.from_vec.ensures ∙ lent.lives) in
    all_same of workers c.put_all_back.new.workers back seen
    (c.in_ok-put_all_back.ensures ∙ (λ i. all_refilled ((c.deref.ensures.value ∙ lent.marks) i) (given i) (lent.left i)))
