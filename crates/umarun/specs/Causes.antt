-- The fault that a refusal of a layer below becomes.
use Rattle.uma_io.specs.declared.reading.ReadRefused.{ReadRefused}
use Rattle.uma_io.specs.declared.reading.ReadRefused.TheVariants as reading
use Rattle.trace_lines.specs.declared.refused.ParseRefused.{ParseRefused}
use Rattle.trace_lines.specs.declared.refused.ParseRefused.TheVariants as parsing
use Rattle.trace_schedule.specs.declared.schedule.ScheduleRefused.{ScheduleRefused}
use Rattle.trace_schedule.specs.declared.schedule.ScheduleRefused.TheVariants as stepping
use Rattle.umarun.specs.declared.fault.Fault.{Fault}
use Rattle.umarun.specs.declared.fault.Fault.TheVariants as faults

abbrev pub read_fault : ReadRefused → Fault
read_fault reading.Fault = faults.Read
read_fault (reading.TooLong most) = faults.TooLong most
read_fault reading.Memory = faults.Memory

abbrev pub parse_fault : ParseRefused → Fault
parse_fault (parsing.Trace refused) = faults.Trace refused
parse_fault parsing.Memory = faults.Memory

abbrev pub schedule_fault : ScheduleRefused → Fault
schedule_fault (stepping.Step line refused) = faults.Step line refused
schedule_fault stepping.Memory = faults.Memory
