-- The step is that of the poll's next seat. To load its word writes nothing.
use Rattle.std.proofs.Common.{◌≡◌, ◌<◌, ◌∙◌, rules, set, arith, ap, sym, ℕ, length, get_or}
use Rattle.std.proofs.lemmas.List.{get_or_default, set-get_or}
use Rattle.smr_core.specs.declared.holder.Holder.{Holder}
use Rattle.smr_core.specs.declared.turns.Seen.{Seen}
use Rattle.smr_core.specs.declared.turns.Seen.TheVariants as seen
use Rattle.smr_core.specs.declared.holder.Task.TheVariants as task
use Rattle.smr_core.specs.ClockState.{place_after_seats, seat_place, seat_word}
use Rattle.smr_core.specs.ClockStep as clock
use Rattle.smr_core.proofs.steps.Works.poll_scan.Goals as goal

word_seen : Holder → ℕ → ℕ → Seen
word_seen h word least = seen.Word h.scanned word least

pub returns : goal.returns
unfolding word_seen
returns c =
    let scanning : c.in_ok-actor.actor.holder.task ≡ task.Scanning = search rules in
    let long : length c.args.self.now.words.items ≡ place_after_seats c.args.self.now.config = c.requires.words in
    let below : c.in_ok-actor.actor.holder.scanned < c.args.self.now.config.seats = c.if-scanned-self.false in
    let found : c.index.result.now ≡ seat_word c.args.self.now.words.items c.in_ok-actor.actor.holder.scanned =
    c.index.ensures ∙ ap (λ (i : ℕ). get_or c.args.self.now.words.items i c.index.result.now) c.seat_place.ensures
    ∙ get_or_default c.args.self.now.words.items (seat_place c.in_ok-actor.actor.holder.scanned) c.index.result.now 0 (omega arith) in
    let after : c.poll_scanned-holder.result ≡ clock.poll_scanned c.args.self.now.config c.in_ok-actor.actor.holder (seat_word c.args.self.now.words.items c.in_ok-actor.actor.holder.scanned) =
    c.poll_scanned-holder.ensures ∙ ap (λ (n : ℕ). clock.poll_scanned c.args.self.now.config c.in_ok-actor.actor.holder n) found in
    let still = set-get_or c.args.self.now.words.items (seat_place c.in_ok-actor.actor.holder.scanned) 0 in
    record {
      stepped =
          record {
            actor = c.in_ok-actor.actor;
            there = c.in_ok-actor.ensures.there;
            needs = (scanning, c.if-scanned-self.false);
            saw_it = λ i. word_seen c.in_ok-actor.actor.holder (found i) (after i).least;
            after = λ i. record {
              config = c.args.self.now.config;
              words = sym still i;
              actors = set c.args.self.now.actors.items c.args.seat ((c.with.ensures ∙ ap (λ (x : Holder). record c.in_ok-actor.actor { holder = x }) after) i);
            };
          };
      refused = search rules;
      unchanged = search rules;
    }
