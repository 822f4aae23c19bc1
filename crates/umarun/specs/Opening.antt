-- What contracts see of the clock, the rows and the cache that are made for a trace (own).
use Rattle.std.specs.Prelude.{◌≡◌, List, IfSome}
use Rattle.smr_clock.specs.declared.clock.Clock.{Clock}
use Rattle.smr_clock.specs.Belongs.{clock_id, setup_of}
use Rattle.trace_text.specs.declared.trace.Head.{Head}
use Rattle.trace_text.specs.declared.trace.NamesHead.{NamesHead}
use Rattle.trace_text.specs.Limits.{IsWithin}
use Rattle.trace_text.specs.Valid.{ClockFits, NamesFits}
use Rattle.replay_worker.specs.Clocks.{ArePasses, setup_for}
use Rattle.replay_worker.specs.NameSizes.{sizes_for}
use Rattle.name_cache.specs.Making.{IsOpened}
use Rattle.name_rows.specs.declared.making.Opened.{Opened}
use Rattle.name_rows.specs.Opening.{AreOpenRows}
use Rattle.umarun.specs.Caches.{clock_in, plan_by, sizes_in}
use Rattle.umarun.specs.declared.cache_names.TraceCache.{TraceCache}

-- the header of a valid trace with this names line
pub record MayOpen (head : Head) (line : NamesHead) : Type 0 where
  pub few_workers : IsWithin 1 16 head.workers
  pub clock : IfSome head.clock ClockFits
  pub fits : NamesFits head line

-- the clock of the trace with a pass for each worker, its rows, each of version 0, and the root of its entries
pub record OpensNames (head : Head) (line : NamesHead) (made : Opened) : Type 0 where
  pub clock : setup_of made.clock ≡ setup_for (plan_by line) head
  pub passes : ArePasses head.workers made.clock made.passes
  pub whole : IsOpened made
  pub rows : AreOpenRows made.clock 0 made.rows

-- what was opened for this header
pub record MayCache (head : Head) (line : NamesHead) (made : Opened) : Type 0 where
  pub whole : IsOpened made
  pub clock : setup_of made.clock ≡ setup_for (plan_by line) head
  pub few_domains : IsWithin 1 4 head.domains
  pub fits : NamesFits head line
