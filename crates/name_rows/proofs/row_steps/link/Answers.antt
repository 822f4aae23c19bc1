use Rattle.std.proofs.Common.{rules, ◌+◌, ◌<◌, arith, ap, sym, subst, ◌∙◌}
use Rattle.smr_clock.specs.declared.clock.Setup.{Setup}
use Rattle.smr_clock.specs.Belongs.{setup_of}
use Rattle.smr_clock.specs.Notes.{seat_knows}
use Rattle.name_rows.specs.Guests.{bound_of, content_of}
use Rattle.name_rows.proofs.RowCalls.{words_below, words_written, row_below, written_one, linked_seen, linked_alone, rest_seen, rest_owned}
use Rattle.name_rows.proofs.row_steps.link.Goals as goal

pub store_link-requires : goal.store_link-requires
store_link-requires c =
    record {
      here = c.take_in.ensures.here;
      names = c.requires.names;
      number = search rules;
      seen = search rules;
      low = search rules;
      entry = words_below c.args.clock.now c.args.entry.words c.in-Some.words c.in-Some.is c.requires.entry_here;
      written = written_one (seat_knows c.args.row.now.seat) (seat_knows c.in-Some.words.seat) (seat_knows c.take_in.new.seat) c.args.row.now.number c.args.row.now.version (content_of c.args.row.now.guest) c.in-Some.words.kept c.args.row.now.seen c.args.row.now.owned c.in-Some.words.no_rows c.in-Some.words.owns (words_written c.args.entry.words c.in-Some.words c.in-Some.is c.requires.written) c.take_in.ensures.view;
      of_row = search rules;
    }

pub invariant_of-row : goal.invariant_of-row
invariant_of-row c =
    let written = words_written c.args.entry.words c.in-Some.words c.in-Some.is c.requires.written in
    let below = words_below c.args.clock.now c.args.entry.words c.in-Some.words c.in-Some.is c.requires.entry_here in
    let low : c.args.row.now.version + 2 < 17592186044416 = c.requires.low in
    record {
      seen = rest_seen (seat_knows c.args.row.now.seat) (seat_knows c.in-Some.words.seat) (seat_knows c.take_in.new.seat) c.args.row.now.number c.args.row.now.version (content_of c.args.row.now.guest) c.in-Some.words.kept c.args.row.now.seen c.args.row.now.owned c.in-Some.words.no_rows c.in-Some.words.owns written c.take_in.ensures.view (seat_knows c.store_link.new.seat) c.store_link.ensures.view
          (bound_of c.in-Some-old.old) (ap content_of c.in-Some-old.is) (seat_knows c.give_out.new.seat) (seat_knows c.give_out.result) c.give_out.ensures.splits;
      owned = rest_owned (seat_knows c.args.row.now.seat) (seat_knows c.in-Some.words.seat) (seat_knows c.take_in.new.seat) c.args.row.now.number c.args.row.now.version (content_of c.args.row.now.guest) c.in-Some.words.kept c.args.row.now.seen c.args.row.now.owned c.in-Some.words.no_rows c.in-Some.words.owns written c.take_in.ensures.view (seat_knows c.store_link.new.seat) c.store_link.ensures.view
          (bound_of c.in-Some-old.old) (ap content_of c.in-Some-old.is) (seat_knows c.give_out.new.seat) (seat_knows c.give_out.result) c.give_out.ensures.splits;
      in_range = subst (λ (s : Setup). c.args.row.now.number < s.plan.0) (c.requires.here.1 ∙ sym c.give_out.ensures.here.1) c.args.row.now.in_range;
      fits = row_below (seat_knows c.give_out.new.seat).setup (setup_of c.args.clock.now) c.in-Some.words.kept.entry c.give_out.ensures.here.1 below;
      low = omega arith;
    }

pub invariant_of-row-in-None : goal.invariant_of-row-in-None
invariant_of-row-in-None c =
    let written = words_written c.args.entry.words c.in-Some.words c.in-Some.is c.requires.written in
    let below = words_below c.args.clock.now c.args.entry.words c.in-Some.words c.in-Some.is c.requires.entry_here in
    let low : c.args.row.now.version + 2 < 17592186044416 = c.requires.low in
    record {
      seen = linked_seen (seat_knows c.args.row.now.seat) (seat_knows c.in-Some.words.seat) (seat_knows c.take_in.new.seat) c.args.row.now.number c.args.row.now.version (content_of c.args.row.now.guest) c.in-Some.words.kept c.args.row.now.seen c.args.row.now.owned c.in-Some.words.no_rows c.in-Some.words.owns written c.take_in.ensures.view (seat_knows c.store_link.new.seat) c.store_link.ensures.view;
      owned = linked_alone (seat_knows c.args.row.now.seat) (seat_knows c.in-Some.words.seat) (seat_knows c.take_in.new.seat) c.args.row.now.number c.args.row.now.version (content_of c.args.row.now.guest) c.in-Some.words.kept c.args.row.now.seen c.args.row.now.owned c.in-Some.words.no_rows c.in-Some.words.owns written c.take_in.ensures.view (seat_knows c.store_link.new.seat) c.store_link.ensures.view (ap content_of c.in-None.is);
      in_range = subst (λ (s : Setup). c.args.row.now.number < s.plan.0) (c.requires.here.1 ∙ sym c.store_link.ensures.here.1) c.args.row.now.in_range;
      fits = row_below (seat_knows c.store_link.new.seat).setup (setup_of c.args.clock.now) c.in-Some.words.kept.entry c.store_link.ensures.here.1 below;
      low = omega arith;
    }
