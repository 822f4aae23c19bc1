use Rattle.std.proofs.Common.{rules, ap, ◌∙◌}
use Rattle.smr_clock.specs.declared.view.View.{View}
use Rattle.smr_clock.specs.Belongs.{view}
use Rattle.smr_clock.specs.Notes.{seat_knows}
use Rattle.name_rows.specs.declared.names.Part.{Part}
use Rattle.name_rows.specs.Guests.{content_of}
use Rattle.name_rows.specs.Linking.{last_seen}
use Rattle.name_rows.specs.Records.{may_note}
use Rattle.name_rows.proofs.MeetSteps.{learn_keeps, meet_keeps, tell_keeps, newest_known}
use Rattle.name_rows.proofs.finding.meet.Goals as goal

pub seat_join-requires-clause-keeps : goal.seat_join-requires-clause-keeps
seat_join-requires-clause-keeps c =
    learn_keeps _ _ _ _ _ c.requires.here.1 c.into_host-note.result.is_note (ap (λ (v : View Part). may_note v.host) c.into_host-note.ensures.view ∙ c.note.result.fit)

pub seat_step-requires-clause-keeps : goal.seat_step-requires-clause-keeps
seat_step-requires-clause-keeps c =
    meet_keeps _ _ _ c.seat_join.ensures.here.1 c.args.row.now.number c.args.row.now.version (content_of c.args.row.now.guest)
    (ap (λ (v : View Part). last_seen v.host.rows) c.seat_join.ensures.view ∙ c.args.row.now.seen) _ c.row_place-place.ensures

pub seat_split-told-requires-clause-keeps : goal.seat_split-told-requires-clause-keeps
seat_split-told-requires-clause-keeps c = tell_keeps _ _ _ c.seat_step.ensures.here.1

pub returns : goal.returns
returns c =
    record {
      here = search rules;
      pass_here = search rules;
      row = search rules;
      last = search rules;
      newest = newest_known (seat_knows c.args.row.now.seat) (view c.args.pass.now) (seat_knows c.into_host-note.result) (seat_knows c.seat_join.new.seat)
          c.args.row.now.number c.args.row.now.version (content_of c.args.row.now.guest) c.seat_join.ensures.view
          (ap (λ (v : View Part). v.host.known) c.into_host-note.ensures.view ∙ ap (λ (v : View Part). v.host.known) c.note.ensures.notes.split ∙ ap (λ (v : View Part). v.host.known) c.note.ensures.notes.after)
          (ap (λ (v : View Part). last_seen v.host.rows) c.seat_join.ensures.view ∙ c.args.row.now.seen)
          c.seat_step.ensures.stepped.2.1;
      known = search rules;
      hold = search rules;
      phase = search rules;
      seen = search rules;
    }
