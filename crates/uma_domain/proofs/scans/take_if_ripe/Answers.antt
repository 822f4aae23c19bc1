use Rattle.std.proofs.Common.{◌≡◌, ◌<◌, ◌∙◌, suc, length, set, take, drop, ap, subst, All, arith, rules}
use Rattle.std.proofs.lemmas.List.{get_or-set_same}
use Rattle.std.proofs.lemmas.List.Elements.{All-append, All-drop, All-same, All-set, All-take}
use Rattle.smr_clock.specs.Belongs.{clock_id}
use Rattle.uma_bucket.specs.Sealed.{IsSealedAt, IsPolled, sealed_bucket, sealed_goal, sealed_note}
use Rattle.uma_domain.proofs.Polled.{not_ripe, was_ripe}
use Rattle.uma_domain.proofs.scans.take_if_ripe.Goals as goal

pub returns-then-not-poll-clause-tried : goal.returns-then-not-poll-clause-tried
returns-then-not-poll-clause-tried g c =
    not_ripe (clock_id c.args.clock.now) c.args.sealed.now.items c.args.at c.index_mut.result.now c.poll.new.self (omega (arith, c.requires.within, c.args.sealed.now.ok.0))
    c.index_mut.ensures.value c.requires.here (c.poll.ensures.no c.if-not-poll.true) c.poll.ensures.here

pub returns-clause-tried : goal.returns-clause-tried
returns-clause-tried g c =
    let items = c.args.sealed.now.items in
    let within : c.args.at < length items = omega (arith, c.requires.within, c.args.sealed.now.ok.0) in
    let gone : c.in_ok-bucket.bucket ≡ c.poll.new.self = c.in_ok-bucket.ensures.value ∙ get_or-set_same items c.args.at c.poll.new.self c.in_ok-bucket.bucket within in
    was_ripe (clock_id c.args.clock.now) items c.args.at c.index_mut.result.now c.poll.new.self c.open.result c.remove.new.self.items within c.index_mut.ensures.value c.requires.here
    c.poll.ensures.same (subst (λ b. IsPolled c.index_mut.result.now b c.poll.new.self) c.if-not-poll.false c.poll.ensures.polled) c.poll.ensures.here
    (c.open.ensures.bucket ∙ ap sealed_bucket gone) (c.open.ensures.goal ∙ ap sealed_goal gone) (c.open.ensures.note ∙ ap sealed_note gone) c.in_ok-bucket.ensures.items

pub returns-clause-leaves : goal.returns-clause-leaves
returns-clause-leaves g c =
    let here = IsSealedAt (clock_id c.args.clock.now) in
    let polled = set c.args.sealed.now.items c.args.at c.poll.new.self in
    let all : All here polled = All-set here c.args.sealed.now.items c.args.at c.poll.new.self c.poll.ensures.here c.requires.here in
    record {
      here = All-same here c.remove.new.self.items _ c.in_ok-bucket.ensures.items
          (All-append here (take c.args.at polled) (drop (suc c.args.at) polled) (All-take here c.args.at polled all) (All-drop here (suc c.args.at) polled all));
      some = search rules;
      none = search rules;
      capacity = search rules;
    }
