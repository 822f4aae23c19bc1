use Rattle.std.proofs.Common.{rules, ◌∙◌, ap, refl}
use Rattle.std.specs.Prelude.{true}
use Rattle.smr_clock.specs.declared.clock.Setup.{Setup}
use Rattle.smr_clock.specs.Belongs.{TableId, setup_of}
use Rattle.uma_zone.specs.declared.zone.make.ZoneSet.{ZoneSet}
use Rattle.umarun.proofs.Ranges.{cache_lacks, entries_fit, sizes_are}
use Rattle.umarun.proofs.replaying.cache_over.Goals as goal

pub new-requires : goal.new-requires
new-requires c = record {
  opened = c.requires.whole;
  fits = record {
    smr = refl;
    entries = entries_fit (setup_of c.args.opened.clock) c.args.line.now.slabs c.args.line.now.rows (ap (λ (s : Setup). s.plan) c.requires.clock);
  };
}

pub returns-in-Ok-clause-cache : goal.returns-in-Ok-clause-cache
returns-in-Ok-clause-cache c =
    let made = c.in-Ok.ensures.made in
    let rows = ap (λ (id : TableId × Setup). id.1.plan.0) made.of_clock ∙ ap (λ (s : Setup). s.plan.0) c.requires.clock in
    (search rules, sizes_are c.in-Ok.cache c.args.head.now c.args.line.now rows made.cap made.bucket made.domains)

pub returns-in-Err-clause-refused : goal.returns-in-Err-clause-refused
returns-in-Err-clause-refused c =
    let head = c.args.head.now in
    let line = c.args.line.now in
    let set : ZoneSet = record { slabs = line.slabs; bucket = line.bucket; limit = 0; reserve = 0; domains = head.domains; smr = true } in
    cache_lacks set c.in-Err.refused c.requires.fits.slabs c.requires.fits.bucket c.requires.few_domains c.in-Err.ensures.refused
