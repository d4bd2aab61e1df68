-- The faults of an engine whose device didn't do what it was asked for, or whose schedule is none (own).
use Rattle.model.specs.declared.device.DeviceFault.{DeviceFault}
use Rattle.model.specs.declared.device.DeviceFault.TheVariants as devices
use Rattle.schedule.specs.declared.schedule_text.either.EitherFault.{EitherFault}
use Rattle.schedule.specs.declared.schedule_text.either.EitherFault.TheVariants as either
use Rattle.engines.specs.declared.fault.Fault.{Fault}
use Rattle.engines.specs.declared.fault.Fault.TheVariants as faults

abbrev pub fault_of : DeviceFault → Fault
fault_of devices.Device = faults.Device
fault_of devices.Memory = faults.Memory

abbrev pub either_fault : EitherFault → Fault
either_fault (either.File refusal) = faults.Schedule refusal
either_fault (either.Text refusal) = faults.Text refusal

-- a device failed, or memory was wanted
abbrev pub IsUnable : Fault → Type 0
IsUnable faults.Device = Unit {0}
IsUnable faults.Memory = Unit {0}
IsUnable (faults.Refusal refusal) = ⊥
IsUnable (faults.Schedule fault) = ⊥
IsUnable (faults.Text fault) = ⊥
IsUnable (faults.Place missing) = ⊥
