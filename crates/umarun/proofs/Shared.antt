-- The cache of a trace may be shared among threads.
use denote.Param.Send.{IsSync}
use denote.Param.SendFields.{declared_sync}
use Rattle.name_cache.proofs.Shared.{cache_sync}
use Rattle.umarun.specs.contracts.cache_names.TraceCache as TraceCache

pub trace_cache_sync : IsSync TraceCache.the_row
trace_cache_sync = declared_sync TraceCache.the_type (cache_sync, tt)
