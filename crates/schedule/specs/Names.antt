-- The names of the faults.
use Rattle.std.specs.Prelude.{ℕ, List, codes}
use Rattle.schedule.specs.declared.fault.ScheduleFault.{ScheduleFault}
use Rattle.schedule.specs.declared.fault.ScheduleFault.TheVariants as faults

abbrev pub fault_name : ScheduleFault → List ℕ
fault_name faults.Truncated = codes "Truncated"
fault_name faults.Magic = codes "Magic"
fault_name faults.Version = codes "Version"
fault_name faults.Repeat = codes "Repeat"
fault_name faults.Trailing = codes "Trailing"
fault_name faults.OutOfMemory = codes "OutOfMemory"
fault_name faults.Limits = codes "Limits"
fault_name faults.Files = codes "Files"
fault_name faults.Arguments = codes "Arguments"
