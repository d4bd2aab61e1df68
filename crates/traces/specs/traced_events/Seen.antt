-- The frame on top of a stack, as it is seen.
use Rattle.std.specs.Prelude.{◌≡◌, List, [], ◌∷◌, Option, Some, None}
use Rattle.linked_code.specs.declared.program.LinkedProgram.{LinkedProgram}
use Rattle.thread_stacks.specs.Stacks.{ShownEntry, Invocation, Initialisation}
use Rattle.machine_state.specs.shown_stacks.Shown.{offset_at}
use Rattle.traces.specs.declared.traced_events.frames.FrameBefore.{FrameBefore}

abbrev pub IsFrameSeen : LinkedProgram → List ShownEntry → Option FrameBefore → Type 0
IsFrameSeen p [] frame = frame ≡ None
IsFrameSeen p (Invocation shown ∷ others) frame = frame ≡ Some (record { method = shown.method; offset = offset_at p shown.method shown.place; entered = shown.entered })
IsFrameSeen p (Initialisation number phase ∷ others) frame = frame ≡ None
