-- Where a thread stands before its event, as it is seen (JVMS 2.6, 5.5).
use Rattle.std.specs.Prelude.{◌≡◌, ℕ, List, [], ◌∷◌, Option, Some, None, slice_get}
use Rattle.model.specs.Classes.{Program}
use Rattle.model.specs.State as model
use Rattle.model.specs.State.{StackOf}
use Rattle.linked_code.specs.declared.program.LinkedProgram.{LinkedProgram}
use Rattle.linked_code.specs.Numbers.{IsClassAt, IsMethodAt}
use Rattle.thread_stacks.specs.Stacks.{ShownEntry, Invocation, Initialisation}
use Rattle.machine_state.specs.shown_stacks.Shown.{offset_at}
use Rattle.machine_state.specs.declared.state.Shared.{Shared}
use Rattle.traces.specs.declared.traced_events.frames.FrameBefore.{FrameBefore}

-- ---- of the stack that is kept

-- the frame on top, or the number of the class on top
abbrev pub IsSeen : LinkedProgram → List ShownEntry → Option FrameBefore → Option ℕ → Type 0
IsSeen p [] frame class = (frame ≡ None) × (class ≡ None)
IsSeen p (Invocation shown ∷ others) frame class =
    (frame ≡ Some (record { method = shown.method; offset = offset_at p shown.method shown.place; entered = shown.entered })) × (class ≡ None)
IsSeen p (Initialisation number phase ∷ others) frame class = (frame ≡ None) × (class ≡ Some number)

abbrev pub IsSeenIf : LinkedProgram → Option (List ShownEntry) → Option FrameBefore → Option ℕ → Type 0
IsSeenIf p (Some stack) frame class = IsSeen p stack frame class
IsSeenIf p None frame class = (frame ≡ None) × (class ≡ None)

-- of a thread, if there is such a thread
abbrev pub IsSeenOf : LinkedProgram → Shared → (t : ℕ) → Option FrameBefore → Option ℕ → Type 0
IsSeenOf p shared t frame class = IsSeenIf p (slice_get shared.stacks.items t) frame class

-- ---- of the stack of the definitions

-- the frame on top by the number of its method, or the class on top by its number
abbrev pub Sees : Program → Option FrameBefore → Option ℕ → StackOf ℕ → Type 0
Sees trees frame class [] = (frame ≡ None) × (class ≡ None)
Sees trees frame class (model.Invocation on_top ∷ stack) =
    (seen : FrameBefore) × (frame ≡ Some seen) × (class ≡ None) × IsMethodAt trees seen.method on_top.method × (seen.offset ≡ on_top.place.offset)
Sees trees frame class (model.Initialisation on_top phase ∷ stack) =
    (number : ℕ) × (frame ≡ None) × (class ≡ Some number) × IsClassAt trees number on_top
