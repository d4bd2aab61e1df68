-- What refusals tell of limits (own).
use Rattle.std.specs.Prelude.{Option, Some, None}
use Rattle.model.specs.declared.end.RunCause.{RunCause}
use Rattle.model.specs.declared.end.RunCause.TheVariants as cause
use Rattle.heap.specs.declared.refusal.AllocRefusal.{AllocRefusal}
use Rattle.heap.specs.declared.refusal.AllocRefusal.TheVariants as heap
use Rattle.heap.specs.declared.monitor.refusal.MonitorRefusal.{MonitorRefusal}
use Rattle.heap.specs.declared.monitor.refusal.MonitorRefusal.TheVariants as monitors
use Rattle.heap.specs.declared.java_threads.refusal.ThreadRefusal.{ThreadRefusal}
use Rattle.heap.specs.declared.java_threads.refusal.ThreadRefusal.TheVariants as threads
use Rattle.machine_state.specs.declared.refusals.EventRefusal.{EventRefusal}
use Rattle.machine_state.specs.declared.refusals.EventRefusal.TheVariants as refusal

-- the cause that a report names
abbrev pub cause_of : EventRefusal → RunCause
cause_of refusal.Objects = cause.Objects
cause_of refusal.Cells = cause.Cells
cause_of refusal.Monitors = cause.Monitors
cause_of refusal.Threads = cause.Threads
cause_of refusal.LockCount = cause.LockCount
cause_of refusal.Memory = cause.Memory

-- the limit that stands; where memory is wanted, none is told
abbrev pub limit_told : EventRefusal → Option RunCause
limit_told refusal.Objects = Some cause.Objects
limit_told refusal.Cells = Some cause.Cells
limit_told refusal.Monitors = Some cause.Monitors
limit_told refusal.Threads = Some cause.Threads
limit_told refusal.LockCount = Some cause.LockCount
limit_told refusal.Memory = None

-- ---- the refusals of the parts

abbrev pub of_heap : AllocRefusal → EventRefusal
of_heap heap.Objects = refusal.Objects
of_heap heap.Cells = refusal.Cells
of_heap heap.Memory = refusal.Memory

abbrev pub of_monitors : MonitorRefusal → EventRefusal
of_monitors monitors.Monitors = refusal.Monitors
of_monitors monitors.LockCount = refusal.LockCount
of_monitors monitors.Memory = refusal.Memory

abbrev pub of_threads : ThreadRefusal → EventRefusal
of_threads threads.Threads = refusal.Threads
of_threads threads.Memory = refusal.Memory
