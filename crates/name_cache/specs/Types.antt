-- Own: the types of the zone of entries, of its items and seats, and of the passes of a clock of names.
use Rattle.smr_clock.specs.declared.pass.Pass.{Pass}
use Rattle.uma_life.specs.declared.states.Live.{Live}
use Rattle.uma_bucket.specs.declared.shelved.Shelved.{Shelved}
use Rattle.uma_seat.specs.declared.seat.SeatCache.{SeatCache}
use Rattle.uma_zone.specs.declared.zone.Zone.{Zone}
use Rattle.name_rows.specs.declared.names.Names.{Names}
use Rattle.name_rows.specs.declared.names.Part.{Part}
use Rattle.name_rows.specs.contracts.names.NamesHost.TheImpl.{ghosts as names_host}
use Rattle.name_cache.specs.declared.entry_hooks.RaisedEntry.{RaisedEntry}
use Rattle.name_cache.specs.declared.entry_hooks.EntryHooks.{EntryHooks}
use Rattle.name_cache.specs.contracts.entry_hooks.RaisedEntryBody.TheImpl.{ghosts as raised_body}
use Rattle.name_cache.specs.contracts.entry_hooks.EntryHooksHooksRaisedEntry.TheImpl.{ghosts as entry_hooks}

abbrev pub ZoneOfEntries : Type 0
ZoneOfEntries = Zone RaisedEntry EntryHooks Names Part raised_body entry_hooks names_host

abbrev pub EntrySeat : Type 0
EntrySeat = SeatCache RaisedEntry Names Part raised_body names_host

abbrev pub EntryBucket : Type 0
EntryBucket = Shelved RaisedEntry Names Part raised_body names_host

abbrev pub LiveEntry : Type 0
LiveEntry = Live RaisedEntry raised_body

abbrev pub NamesPass : Type 0
NamesPass = Pass Names Part names_host
