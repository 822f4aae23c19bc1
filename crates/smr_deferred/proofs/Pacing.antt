-- What an advance comes to, told of the list as it was before its numbers were counted.
use Rattle.std.proofs.Common.{◌≡◌, ◌≤◌, ◌+◌, ℕ, Option, Some, None, MatchOption, ◌∙◌, ap, refl, subst, arith}
use Rattle.smr_clock.specs.declared.view.View.{View}
use Rattle.smr_clock.specs.declared.polls.AdvanceRefused.{AdvanceRefused}
use Rattle.smr_clock.specs.declared.host.Host.{Ghosts}
use Rattle.smr_clock.specs.declared.pass.Goal.{Goal}
use Rattle.smr_clock.specs.declared.clock.Setup.{Setup}
use Rattle.smr_clock.specs.Advances.{Advances}
use Rattle.smr_clock.specs.Goals.{number_of}
use Rattle.smr_clock.specs.SafeReuse.{KnownStaysOver}
use Rattle.smr_deferred.specs.declared.asked.Asked.{Asked}
use Rattle.smr_deferred.specs.declared.pace.Pace.{Pace}
use Rattle.smr_deferred.specs.Advancing.{Answers, Declines, AdvancesOnce, Paces, Rests}
use Rattle.smr_deferred.specs.Asked.{asked_goal, asked_knows, KnowsExpired}
use Rattle.smr_deferred.specs.Numbers.{Numbers, one_retired, IsDue}
use Rattle.smr_deferred.specs.Pace.{limit_in, asked_in, refused_in, numbers_of}
use Rattle.smr_deferred.specs.Polling.{KnowsOver}

-- an advance's goal is at least two above what its pass had seen
pub goal_reaches : {P : Type 0} (v v' : View P) (moved goal : ℕ) → moved ≤ v.holder.seen + 2 → Advances v goal v' → moved ≤ goal
goal_reaches v v' moved goal low a =
    let seen : v.holder.seen ≤ a.write = a.loads.write_found.not_lower in
    let two : goal ≡ a.write + 2 = a.two_above in
    omega arith

each_case : {A : Type 0} (o : Option A) (None' None'' : Type 0) (Some' Some'' : A → Type 0)
    → (None' → None'') → ((a : A) → Some' a → Some'' a) → MatchOption o None' Some' → MatchOption o None'' Some''
each_case None _ _ _ _ f g m = f m
each_case (Some a) _ _ _ _ f g m = g a m

module _ {H P : Type 0} {g : Ghosts H P} (copied : P → P) (v : View P) (moved : ℕ) (was counted is : Pace H P g) (v' : View P) (n : Numbers) where
  answers_since : Rests n was counted → Answers copied v moved (numbers_of counted) counted is v' → Answers copied v moved n was is v'
  answers_since rests a =
      subst (λ (m : Numbers). Answers copied v moved m was is v') rests.numbers (record {
        asked = a.asked;
        between = a.between;
        asked_is = a.asked_is;
        advance = a.advance;
        noted = a.noted;
        reached = a.reached;
        moved_is = a.moved_is;
        refused_is = a.refused_is;
        numbers = a.numbers;
        limit = a.limit ∙ rests.limit;
      })

  declines_since : Rests n was counted → (refused : AdvanceRefused) → Declines v refused (numbers_of counted) counted is v' → Declines v refused n was is v'
  declines_since rests refused d =
      record {
        cause = d.cause;
        refused_is = d.refused_is;
        asked = d.asked ∙ rests.asked;
        moved = d.moved ∙ rests.moved;
        numbers = d.numbers ∙ rests.numbers;
        limit = d.limit ∙ rests.limit;
      }

  pub advances_since : Rests n was counted → AdvancesOnce copied v moved (numbers_of counted) counted is v' → AdvancesOnce copied v moved n was is v'
  advances_since rests once =
      each_case (refused_in is) _ _ _ _ (answers_since rests) (declines_since rests) once

-- what the list's note knows to be expired is over from then on
module _ {H P : Type 0} {g : Ghosts H P} where
  pub knows_over : (goal : ℕ) (asked polled : Asked H P g) (is : Pace H P g) → ((a : Setup) → KnownStaysOver P a)
      → goal ≤ asked_goal asked → polled.goal ≡ asked.goal → KnowsExpired polled → asked_in is ≡ Some polled → KnowsOver goal is
  knows_over goal asked polled is law reached same known is_asked =
      let goals : asked_goal polled ≡ asked_goal asked = ap (λ (n : Goal). number_of n) same in
      let floor : asked_goal polled ≤ (asked_knows polled).holder.floor = known in
      let expired : goal ≤ (asked_knows polled).holder.floor = omega arith in
      record {
        asked = polled;
        is_asked = is_asked;
        expired = expired;
        over = λ now following id clocked run there. law (asked_knows polled).setup now following id (asked_knows polled) goal clocked run there expired;
      }

module _ {H P : Type 0} {g : Ghosts H P} where
  pub rests_twice : (more : Numbers → Numbers) (was settled counted : Pace H P g) → Rests (numbers_of was) was settled
      → Rests (more (numbers_of settled)) settled counted → Rests (more (numbers_of was)) was counted
  rests_twice more was settled counted first second =
      record {
        asked = second.asked ∙ first.asked;
        moved = second.moved ∙ first.moved;
        refused = second.refused ∙ first.refused;
        numbers = second.numbers ∙ ap more first.numbers;
        limit = second.limit ∙ first.limit;
      }

  -- what is due once the value is counted was due
  due_same : (was counted : Pace H P g) → Rests (one_retired (numbers_of was)) was counted → IsDue (limit_in counted) (numbers_of counted) → IsDue (limit_in was) (one_retired (numbers_of was))
  due_same was counted rests due =
      let since : (numbers_of counted).since ≡ (one_retired (numbers_of was)).since = ap (λ (n : Numbers). n.since) rests.numbers in
      let limit : limit_in counted ≡ limit_in was = rests.limit in
      let here : limit_in counted ≤ (numbers_of counted).since = due in
      omega arith

  still_due : (was counted : Pace H P g) → Rests (one_retired (numbers_of was)) was counted → IsDue (limit_in was) (one_retired (numbers_of was)) → IsDue (limit_in counted) (numbers_of counted)
  still_due was counted rests due =
      let since : (numbers_of counted).since ≡ (one_retired (numbers_of was)).since = ap (λ (n : Numbers). n.since) rests.numbers in
      let limit : limit_in counted ≡ limit_in was = rests.limit in
      let here : limit_in was ≤ (one_retired (numbers_of was)).since = due in
      omega arith

  pub paces_due : (copied : P → P) (v : View P) (moved : ℕ) (was counted is : Pace H P g) (v' : View P) → Rests (one_retired (numbers_of was)) was counted
      → IsDue (limit_in counted) (numbers_of counted) → AdvancesOnce copied v moved (numbers_of counted) counted is v' → Paces copied v moved was is v'
  paces_due copied v moved was counted is v' rests due once =
      record {
        due = λ _. advances_since copied v moved was counted is v' _ rests once;
        not_due = λ none. absurd (none (due_same was counted rests due));
      }

  pub paces_not_due : (copied : P → P) (v : View P) (moved : ℕ) (was counted : Pace H P g) → Rests (one_retired (numbers_of was)) was counted
      → (IsDue (limit_in counted) (numbers_of counted) → ⊥) → Paces copied v moved was counted v
  paces_not_due copied v moved was counted rests none =
      record {
        due = λ due. absurd (none (still_due was counted rests due));
        not_due = λ _. (rests, refl);
      }
