-- A frame that goes on at its handler (JVMS 2.10).
use Rattle.std.specs.Prelude.{◌≡◌, ℕ, ◌<◌, ◌^◌, List, [], ◌∷◌, Result, length}
use Rattle.model.specs.Classes.{Program}
use Rattle.model.specs.Frames.{at_offset}
use Rattle.model.specs.LimitStands.{Bounds}
use Rattle.model.specs.Operands.{words}
use Rattle.model.specs.State as model
use Rattle.model.specs.State.{FrameOf, StackOf, WorldOf}
use Rattle.model.specs.Step.{on_to}
use Rattle.model.specs.Worlds.{with_caught}
use Rattle.linked_code.specs.declared.program.LinkedProgram.{LinkedProgram}
use Rattle.thread_stacks.specs.Stacks.{ShownFrame, ShownEntry, Invocation, caught}
use Rattle.machine_state.specs.shown_stacks.Shown.{ShowsFrame, ShowsStack, offset_at}
use Rattle.machine_state.specs.declared.answers.Answer.{Answer}
use Rattle.machine_state.specs.declared.refusals.EventRefusal.{EventRefusal}
use Rattle.machine_state.specs.declared.state.Shared.{Shared}
use Rattle.machine_state.specs.Shown.{Represents}
use Rattle.machine_state.specs.Events.{Becomes}

-- the frame on top, where there is one, is at the handler with one word alone on its stack
abbrev pub IsCaughtOnTop : (handler word : ℕ) → (from to : List ShownEntry) → Type 0
IsCaughtOnTop handler word from to =
    (shown : ShownFrame) (others : List ShownEntry) → from ≡ Invocation shown ∷ others → to ≡ Invocation (caught handler word shown) ∷ others

-- the frame on top, where there is one, has no operand
abbrev pub HasNoOperand : List ShownEntry → Type 0
HasNoOperand stack = (shown : ShownFrame) (others : List ShownEntry) → stack ≡ Invocation shown ∷ others → length shown.operands ≡ 0

-- in each world that is shown no exception is pending in the thread any more; no more has changed than the threads
pub record IsCleared (t : ℕ) (old new : Shared) : Type 0 where
  pub represents : (trees : Program) (p : LinkedProgram) (bounds : Bounds) (world : WorldOf ℕ) → Represents trees p bounds old world
      → Represents trees p bounds new (with_caught world t)
  pub rest : new ≡ record old { threads = new.threads }
  pub count : length new.threads.threads ≡ length old.threads.threads

-- In each world in which the exception is an object, the frame on top goes on at the offset of the handler with the exception alone
-- on its stack, and the exception is not pending any more.
abbrev pub Catches : (t handler exception : ℕ) → Result Answer EventRefusal → (old new : Shared) (from to : List ShownEntry) → Type 0
Catches t handler exception result old new from to =
    (trees : Program) (p : LinkedProgram) (bounds : Bounds) (inflated : List ℕ) (world : WorldOf ℕ) → Represents trees p bounds old world
    → (length old.heap.objects < 2 ^ 32 → exception < length old.heap.objects)
    → (shown : ShownFrame) (others : List ShownEntry) → from ≡ Invocation shown ∷ others
    → (frame : FrameOf ℕ) (rest : StackOf ℕ) → ShowsFrame trees p shown frame → ShowsStack trees p others rest
    → (offset : ℕ) → offset_at p shown.method handler ≡ offset
    → Becomes trees p bounds inflated world
    (on_to (with_caught world t) (model.Invocation (at_offset frame offset (record { locals = frame.place.slots.locals; stack = words.reference exception ∷ [] })) ∷ rest))
    result old new from to
