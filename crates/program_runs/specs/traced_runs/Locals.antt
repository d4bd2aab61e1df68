-- The next event of a thread is local, as a machine decides it.
use Rattle.std.specs.Prelude.{◌≡◌, ℕ, List, Option, Some, Bool, true, false, ◌==◌, slice_index_or}
use Rattle.model.specs.declared.event.Event.{Event}
use Rattle.model.specs.Classes.{Program}
use Rattle.run_laws.specs.interleavings.Local.{is_local}
use Rattle.linked_code.specs.declared.instruction.LinkedInstruction.{LinkedInstruction}
use Rattle.linked_code.specs.declared.instruction.LinkedInstruction.TheVariants as linked
use Rattle.linked_code.specs.declared.program.LinkedProgram.{LinkedProgram}
use Rattle.thread_stacks.specs.Stacks.{ShownFrame, ShownEntry, IsTopFrame}
use Rattle.machine_state.specs.linked_frames.Frames.{IsInstruction}
use Rattle.machine_instructions.specs.local_instructions.Local as instructions
use Rattle.machine.specs.Machines.{MachineOf}
use Rattle.machine.specs.schedule_runs.Done.{HasDone}
use Rattle.traces.specs.declared.traced_events.frames.FrameBefore.{FrameBefore}
use Rattle.traces.specs.traced_events.Places.{IsSeenOf}
use Rattle.program_runs.specs.traced_runs.Windows.{is_told}
use Rattle.program_runs.specs.declared.traced_runs.window.Window.{Window}

-- a division by the int on top of the operands, which is 0
abbrev pub divides_by_zero : LinkedInstruction → ℕ → Bool
divides_by_zero linked.Divide top = top == 0
divides_by_zero linked.Remainder top = top == 0
divides_by_zero _ top = false

-- the frame on top of a stack stands at a local instruction, and that is no division by 0
pub record StandsAtLocal (p : LinkedProgram) (stack : List ShownEntry) : Type 0 where
  pub shown : ShownFrame
  pub on_top : IsTopFrame stack (Some shown)
  pub instruction : LinkedInstruction
  pub is : IsInstruction p stack (Some instruction)
  pub local : instructions.is_local instruction ≡ true
  pub divides : divides_by_zero instruction (slice_index_or shown.operands 0 0) ≡ false

-- whatever run of whatever files a machine has done, the next event of a thread is local in the state to which that led
abbrev pub IsNextLocal : MachineOf → ℕ → Type 0
IsNextLocal m t = (files : List (List ℕ)) (trees : Program) (done : List Event) (has : HasDone m files trees done) → is_local trees has.run.lead.state t ≡ true

-- the next event of a thread is local, it is to be told, and this frame is on top of the thread, of a method with this number
pub record IsNextIn (window : Window) (m : MachineOf) (number t method : ℕ) (frame : FrameBefore) : Type 0 where
  pub told : is_told window number t ≡ true
  pub local : IsNextLocal m t
  pub class : Option ℕ
  pub seen : IsSeenOf m.program m.shared t (Some frame) class
  pub same : frame.method ≡ method
