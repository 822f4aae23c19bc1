-- The passes of a new clock.
use Rattle.std.proofs.Common.{◌≡◌, ℕ, List, ap, ◌∙◌}
use Rattle.smr_clock.specs.declared.clock.Clock.{Clock}
use Rattle.smr_clock.specs.declared.pass.Pass.{Pass}
use Rattle.smr_clock.specs.declared.host.Host.{Ghosts}
use Rattle.smr_clock.specs.declared.view.View.{View}
use Rattle.smr_clock.specs.Belongs.{IsPassOf, setup_of, view}
use Rattle.smr_clock.specs.Making.{AreWorkers, fresh_view}
use Rattle.replay_worker.specs.Clocks.{IsNewPass, ArePasses}
use Rattle.replay_rounds.proofs.Lists.{read_at, as_low}

module _ {H Part : Type 0} {h : Ghosts H Part} where
  new_pass : (copied : Part → Part) (first : Part) (clock : Clock H Part) (seat : ℕ) (pass : Pass H Part h) → IsPassOf clock pass → view pass ≡ fresh_view copied (setup_of clock) first seat → IsNewPass clock pass
  new_pass copied first clock seat pass here fresh = record {
    here = here;
    outside = ap (λ (v : View Part). v.holder.phase) fresh;
    begun = as_low (ap (λ (v : View Part). v.holder.seen) fresh);
    low = as_low (ap (λ (v : View Part). v.holder.floor) fresh);
  }

  pub passes_of : {copied : Part → Part} {first : Part} (count : ℕ) (clock : Clock H Part) (passes : List (Pass H Part h)) → (setup_of clock).config.seats ≡ count → AreWorkers clock copied first passes → ArePasses count clock passes
  passes_of {copied = copied} {first = first} count clock passes seats are = record {
    one_each = are.one_each ∙ seats;
    each = λ n pass at. new_pass copied first clock n pass (are.here n pass (read_at passes n pass at)) (are.fresh n pass (read_at passes n pass at));
  }
