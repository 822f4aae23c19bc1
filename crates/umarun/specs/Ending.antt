-- How a run of the program ends (own).
use Rattle.std.specs.Prelude.{ℕ, Bool, true, false, Option, Some, None}
use Rattle.command_line.specs.declared.command.Command.{Command}
use Rattle.command_line.specs.declared.command.Command.TheVariants as commands
use Rattle.umarun.specs.declared.fault.Fault.{Fault}
use Rattle.umarun.specs.declared.fault.Fault.TheVariants as faults
use Rattle.umarun.specs.declared.replaying.Status.{Status}
use Rattle.umarun.specs.declared.replaying.Status.TheVariants as statuses

-- the commands that read their input
abbrev pub reads_input : Option Command → Bool
reads_input (Some commands.Replay) = true
reads_input (Some commands.Steps) = true
reads_input other = false

-- the commands that replay a trace, and so make a report
abbrev pub makes_report : Option Command → Bool
makes_report (Some commands.Replay) = true
makes_report (Some (commands.Bulk seed workers ops)) = true
makes_report other = false

-- the status that goes with a fault
abbrev pub status_of : Fault → Status
status_of faults.Usage = statuses.Usage
status_of (faults.TooLong most) = statuses.Refused
status_of (faults.Trace refused) = statuses.Refused
status_of (faults.Step line refused) = statuses.Refused
status_of faults.Read = statuses.ReadFault
status_of faults.Write = statuses.WriteFault
status_of faults.Memory = statuses.Memory

-- a run without a fault is good
abbrev pub status_at : Option Fault → Status
status_at None = statuses.Good
status_at (Some fault) = status_of fault

-- the status by which the program ends
abbrev pub exit_code : Status → ℕ
exit_code statuses.Good = 0
exit_code statuses.Usage = 2
exit_code statuses.Refused = 3
exit_code statuses.ReadFault = 4
exit_code statuses.WriteFault = 5
exit_code statuses.Memory = 6
