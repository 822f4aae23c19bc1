-- The types of the passes and seats of a clock of names.
use Rattle.smr_clock.specs.declared.host.HostSeat.{HostSeat}
use Rattle.smr_clock.specs.declared.pass.Pass.{Pass}
use Rattle.name_rows.specs.declared.names.Names.{Names}
use Rattle.name_rows.specs.declared.names.Part.{Part}
use Rattle.name_rows.specs.contracts.names.NamesHost.TheImpl.{ghosts as names_host}

abbrev pub NamesPass : Type 0
NamesPass = Pass Names Part names_host

abbrev pub NamesSeat : Type 0
NamesSeat = HostSeat Names Part names_host
