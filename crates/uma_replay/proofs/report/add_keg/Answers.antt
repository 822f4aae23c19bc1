use Rattle.std.proofs.Common.{rules, ◌<◌, ◌+◌, ◌∙◌, List, length, sym, subst}
use Rattle.zone_stats.specs.declared.report.KegLine.{KegLine}
use Rattle.uma_replay.specs.Reporting.{AreKegsTo}
use Rattle.uma_replay.proofs.KegLines.{keg_bound, kegs_read}
use Rattle.uma_replay.proofs.report.add_keg.Goals as goal

pub bounds-censuses-keg : goal.bounds-censuses-keg
bounds-censuses-keg c =
    keg_bound c.args.heads.now c.args.place c.len-keg.result (length c.args.censuses.now) c.index-heads-place.result c.requires.place c.index-heads-place.is
    (sym c.is_some.ensures ∙ c.if-is_some.false) (c.len-keg.ensures ∙ (c.args.lines.now.ok.0 ∙ c.requires.so_far.count)) c.requires.each.censuses

pub offset_bounds-censuses-keg : goal.offset_bounds-censuses-keg
offset_bounds-censuses-keg c =
    let below : c.len-keg.result < length c.args.censuses.now =
    keg_bound c.args.heads.now c.args.place c.len-keg.result (length c.args.censuses.now) c.index-heads-place.result c.requires.place c.index-heads-place.is
    (sym c.is_some.ensures ∙ c.if-is_some.false) (c.len-keg.ensures ∙ (c.args.lines.now.ok.0 ∙ c.requires.so_far.count)) c.requires.each.censuses in
    search rules

pub bounds-tallies-keg : goal.bounds-tallies-keg
bounds-tallies-keg c =
    keg_bound c.args.heads.now c.args.place c.len-keg.result (length c.args.tallies.now) c.index-heads-place.result c.requires.place c.index-heads-place.is
    (sym c.is_some.ensures ∙ c.if-is_some.false) (c.len-keg.ensures ∙ (c.args.lines.now.ok.0 ∙ c.requires.so_far.count)) c.requires.each.tallies

pub offset_bounds-tallies-keg : goal.offset_bounds-tallies-keg
offset_bounds-tallies-keg c =
    let below : c.len-keg.result < length c.args.tallies.now =
    keg_bound c.args.heads.now c.args.place c.len-keg.result (length c.args.tallies.now) c.index-heads-place.result c.requires.place c.index-heads-place.is
    (sym c.is_some.ensures ∙ c.if-is_some.false) (c.len-keg.ensures ∙ (c.args.lines.now.ok.0 ∙ c.requires.so_far.count)) c.requires.each.tallies in
    search rules

pub returns : goal.returns
returns c =
    let P : List KegLine → Type 0 = λ lines. AreKegsTo c.args.heads.now c.args.censuses.now c.args.tallies.now (c.args.place + 1) lines in
    subst P (sym c.in_ok-push.ensures.items) (kegs_read c.args.heads.now c.args.censuses.now c.args.tallies.now c.args.place c.len-keg.result c.args.lines.now.items
    c.index-heads-place.result c.index-censuses-keg.result _ c.line_of_keg.result c.requires.place c.index-heads-place.is (sym c.is_some.ensures ∙ c.if-is_some.false) c.requires.so_far
    (c.len-keg.ensures ∙ c.args.lines.now.ok.0) c.requires.each.censuses c.requires.each.tallies c.index-censuses-keg.is c.line_of_keg.ensures.line c.line_of_keg.ensures.eight)
