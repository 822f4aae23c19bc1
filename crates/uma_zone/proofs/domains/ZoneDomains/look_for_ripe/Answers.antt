use Rattle.std.proofs.Common.{rules, ◌≡◌, ◌≤◌, ◌<◌, ℕ, List, length, ap, sym, subst}
use Rattle.smr_clock.specs.declared.pass.Note.{Note}
use Rattle.smr_clock.specs.Belongs.{view}
use Rattle.smr_clock.specs.Goals.{number_of}
use Rattle.smr_clock.specs.Notes.{note_knows}
use Rattle.smr_clock.specs.Steps.{joined_view}
use Rattle.uma_bucket.specs.declared.bucket.Bucket.{Bucket}
use Rattle.uma_bucket.specs.Bucket.{items_of}
use Rattle.uma_bucket.specs.Finished.{AreFinished}
use Rattle.uma_bucket.specs.Loose.{loose_items}
use Rattle.uma_bucket.specs.Ripe.{ripe_bucket, ripe_goal, IsOverFrom}
use Rattle.uma_seat.specs.Rack.{spares_in}
use Rattle.uma_seat.specs.Seat.{top_of, spares_of, shelf_of}
use Rattle.uma_zone.specs.Domains.{domains_home}
use Rattle.uma_zone.proofs.Found.{not_both}
use Rattle.uma_zone.proofs.DomainSeats.{refilled_seat, spares_left, finished_some}
use Rattle.uma_zone.proofs.domains.ZoneDomains.look_for_ripe.Goals as goal

pub returns-in-Some : goal.returns-in-Some
returns-in-Some g c =
    let mid = c.take_ripe.new.seat in
    let ripe = c.in-Some.ripe in
    let made = c.into_cached-bucket.ensures in
    let finished : AreFinished (g.K.Hooks.leaves_dtor c.args.hooks.now) (loose_items (ripe_bucket ripe)) (items_of (c.refill.new.self).top) =
    subst (λ (b : Bucket _ _). AreFinished (g.K.Hooks.leaves_dtor c.args.hooks.now) (loose_items (ripe_bucket ripe)) (items_of b)) (sym c.refill.ensures.top) made.finished in
    record {
      pass = search rules;
      seat = refilled_seat c.args.self.now mid c.refill.new.self c.into_cached-bucket.result.0 c.refill.ensures.same.0 c.refill.ensures.misses c.refill.ensures.ports c.refill.ensures.top
          (made.home (domains_home c.args.self.now) c.in-Some.ensures.filled.at_home) c.take_ripe.ensures.seat;
      found = λ _. subst (λ (b : Bucket _ _). 0 < length (items_of b)) (sym c.refill.ensures.top) (finished_some c.into_cached-bucket.result.0 (ripe_bucket ripe) made.tickets c.in-Some.ensures.filled.some);
      ripe = λ _ _. record {
        ripe = ripe;
        of_clock = c.in-Some.ensures.of_clock;
        finished = finished;
        expired = ripe.expired;
        over = subst (λ (n : Note _ _ _). IsOverFrom (note_knows n) (number_of (ripe_goal ripe))) made.note made.over;
        absorbed = subst (λ (n : Note _ _ _). view c.absorb.new.pass ≡ joined_view g.H.Host.merged (view c.args.pass.now) (note_knows n)) made.note c.absorb.ensures.view;
      };
      hit = search rules;
      missed = search rules;
      no_top = search rules;
      no_rack = search rules;
      unseen = search rules;
      unseen_plain = λ plain. absurd (not_both c.args.self.now.smr plain c.requires.smr);
      spares = subst (λ (l : List ℕ). length l ≤ length (spares_of c.refill.new.self)) (ap spares_in c.take_ripe.ensures.kept.rack)
          (spares_left (spares_of mid) (spares_of c.refill.new.self) (length (shelf_of mid)) (top_of mid).room c.refill.ensures.spare c.refill.ensures.no_place);
      kept = search rules;
      own = λ _. record { plain = λ plain. absurd (not_both c.args.self.now.smr plain c.requires.smr); ripe = λ _. record { ripe = ripe; taken = c.in-Some.ensures.own; finished = finished } };
      looked = search rules;
    }
