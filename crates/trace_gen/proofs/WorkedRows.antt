-- The generator's definitions on worked rows.
use Rattle.std.proofs.Common.{◌≡◌, Bool, true, false, List, [], ◌∷◌, Some, None, refl}
use Rattle.rand_core.specs.Steps.{stream_of, u32_at, word_bytes}
use Rattle.rand_core.specs.Stream.{fill_bytes}
use Rattle.trace_text.specs.declared.trace.Between.TheVariants.{Give}
use Rattle.trace_gen.specs.Generator.{draw, filled_slots, give_drawn, least_filled, least_free, seeded, slots_given}

-- two workers of four slots each
two : List (List Bool)
two = (false ∷ true ∷ true ∷ false ∷ []) ∷ (true ∷ false ∷ true ∷ false ∷ []) ∷ []

slots_found :
    (filled_slots (false ∷ true ∷ true ∷ false ∷ []) ≡ 1 ∷ 2 ∷ [])
    × (least_filled (false ∷ true ∷ true ∷ false ∷ []) ≡ Some 1)
    × (least_free (true ∷ false ∷ true ∷ false ∷ []) ≡ Some 1)
    × (least_free (true ∷ true ∷ []) ≡ None)
    × (give_drawn 2 two ≡ Some (Give 0 1 1 1))
    × (give_drawn 2 ((false ∷ []) ∷ (false ∷ []) ∷ []) ≡ None)
    × (give_drawn 2 ((true ∷ []) ∷ (true ∷ []) ∷ []) ≡ None)
    × (give_drawn 1 ((true ∷ []) ∷ []) ≡ None)
    × (slots_given (Some (Give 0 1 1 1)) two ≡ (false ∷ false ∷ true ∷ false ∷ []) ∷ (true ∷ true ∷ true ∷ false ∷ []) ∷ [])
unfolding two
slots_found = (refl, refl, refl, refl, refl, refl, refl, refl, refl)

-- the worker, the choice and the zone of the first step of seed 7 with one worker
first_draws :
    let worker = draw 1 (seeded 7) in
    let choice = draw 64 worker.1 in
    (worker.0 ≡ 0) × (choice.0 ≡ 20) × ((draw 3 choice.1).0 ≡ 2)
unfolding draw seeded u32_at stream_of word_bytes fill_bytes
first_draws = (refl, refl, refl)
