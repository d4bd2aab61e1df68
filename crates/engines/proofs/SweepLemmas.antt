-- Why class files are not swept, and what a sweep leaves.
use Rattle.std.proofs.Common.{◌≡◌, ℕ, ◌<◌, Bool, List, length, Option, Some, inl, refl, subst, sym}
use Rattle.std.specs.Prelude.{IfErr, IfOk, Result}
use Rattle.model.specs.declared.device.DeviceFault.{DeviceFault}
use Rattle.model.specs.declared.device.DeviceFault.TheVariants as devices
use Rattle.command_line.specs.declared.options.Run.{Run}
use Rattle.command_line.specs.declared.sweep_options.SweepOptions.{SweepOptions}
use Rattle.search.specs.declared.run_outcomes.wanted.Wanted.{Wanted}
use Rattle.program_files.specs.Folders.{Held}
use Rattle.engines.specs.Commands.{IsRunDoneBy, IsRunUndoneBy, IsSweepDone, Leaves, LeavesAt}
use Rattle.engines.specs.Devices.{IsUnable, fault_of}
use Rattle.engines.specs.Engines.{IsOfFile}
use Rattle.engines.specs.Sweeps.{IsUnswept, SweepsPart}
use Rattle.engines.specs.declared.fault.Fault.{Fault}
use Rattle.engines.specs.declared.fault.Fault.TheVariants as faults
use Rattle.engines.specs.declared.status.Status.{Status}

module _ (given : ℕ) (lefts : List (Option (List ℕ))) (run : Run) (sweep : SweepOptions) (may_stop : Bool) (want : Wanted) where
  -- a class file isn't read, and nothing is written
  pub unread_is_unswept : (fault : Fault) (held : Option (List ℕ)) (file : ℕ) → file < length lefts → IsOfFile file fault
      → IsUnswept given lefts run sweep may_stop want held held fault
  unread_is_unswept faults.Device held file within of_file = inl refl
  unread_is_unswept faults.Memory held file within of_file = absurd of_file
  unread_is_unswept (faults.Schedule fault) held file within of_file = absurd of_file
  unread_is_unswept (faults.Text fault) held file within of_file = absurd of_file
  unread_is_unswept (faults.Place missing) held file within of_file = absurd of_file
  unread_is_unswept (faults.Refusal refusal) held file within of_file = (refl, inl (file, within, of_file))

  -- the writing stops
  pub part_is_unswept : (fault : DeviceFault) (old new : Option (List ℕ)) → SweepsPart given lefts run sweep may_stop want old new
      → IsUnswept given lefts run sweep may_stop want old new (fault_of fault)
  part_is_unswept devices.Device old new part = part
  part_is_unswept devices.Memory old new part = part

-- a fault of a device is one
pub unable_of : (fault : DeviceFault) → IsUnable (fault_of fault)
unable_of devices.Device = tt
unable_of devices.Memory = tt

-- ---- what is left

module _ (held holds : Held) (given : ℕ) (lefts : List (Option (List ℕ))) (run : Run) (sweep : SweepOptions) (is : run.sweep ≡ Some sweep) (old new : Option (List ℕ)) (result : Result Status Fault) where
  pub sweep_done : IfOk result (Leaves (IsSweepDone held given lefts run sweep) old new held holds)
      → IfOk result (Leaves (IsRunDoneBy held given lefts run run.sweep) old new held holds)
  sweep_done done = subst (λ (s : Option SweepOptions). IfOk result (Leaves (IsRunDoneBy held given lefts run s) old new held holds)) (sym is) done

  pub sweep_undone : IfErr result (LeavesAt (IsRunUndoneBy held given lefts run (Some sweep) old new) held holds)
      → IfErr result (LeavesAt (IsRunUndoneBy held given lefts run run.sweep old new) held holds)
  sweep_undone undone = subst (λ (s : Option SweepOptions). IfErr result (LeavesAt (IsRunUndoneBy held given lefts run s old new) held holds)) (sym is) undone
