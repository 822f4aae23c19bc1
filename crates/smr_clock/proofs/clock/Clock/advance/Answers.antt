use Rattle.std.proofs.Common.{rules}
use Rattle.smr_clock.specs.Belongs.{knows, view}
use Rattle.smr_clock.proofs.AdvanceLemmas.{spent, too_far, advanced}
use Rattle.smr_clock.proofs.clock.Clock.advance.Goals as goal

pub returns-then-is_spent : goal.returns-then-is_spent
returns-then-is_spent g c =
    record {
      here = search rules;
      phase = search rules;
      advanced = search rules;
      refused =
          spent (view c.args.pass.now) c.load_read_hand-read.result c.load_write_hand-write.result (knows c.load_read_hand-read.new.seat) (knows c.load_write_hand-write.new.seat)
          c.load_read_hand-read.ensures.found c.load_read_hand-read.ensures.view c.load_write_hand-write.ensures.found c.load_write_hand-write.ensures.view (search rules);
    }

pub returns-then-is_too_far : goal.returns-then-is_too_far
returns-then-is_too_far g c =
    record {
      here = search rules;
      phase = search rules;
      advanced = search rules;
      refused =
          too_far (view c.args.pass.now) c.load_read_hand-read.result c.load_write_hand-write.result (knows c.load_read_hand-read.new.seat) (knows c.load_write_hand-write.new.seat)
          c.load_read_hand-read.ensures.found c.load_read_hand-read.ensures.view c.load_write_hand-write.ensures.found c.load_write_hand-write.ensures.view (search rules) (search rules);
    }

pub returns : goal.returns
returns g c =
    record {
      here = search rules;
      phase = search rules;
      advanced =
          advanced (view c.args.pass.now) c.load_read_hand-read.result c.load_write_hand-write.result c.exchange_write_hand.result (knows c.load_read_hand-read.new.seat) (knows c.load_write_hand-write.new.seat) (knows c.exchange_write_hand.new.seat)
          c.load_read_hand-read.ensures.found c.load_read_hand-read.ensures.view c.load_write_hand-write.ensures.found c.load_write_hand-write.ensures.view (search rules) (search rules)
          c.exchange_write_hand.ensures.found c.exchange_write_hand.ensures.view;
      refused = search rules;
    }
