-- Whether an instruction does the accesses that it names, by the exception that is pending after it (JLS 17.4.2).
use Rattle.std.specs.Prelude.{◌≡◌, ℕ, ◌<◌, ◌∷◌, Some, None, not, ◌&&◌, is_some, length, slice_get}
use Rattle.model.specs.declared.event.Event.{Event}
use Rattle.model.specs.declared.value.Value.{Value}
use Rattle.model.specs.Classes.{Program, Body, body_of}
use Rattle.model.specs.Operands.{values}
use Rattle.model.specs.State as state
use Rattle.model.specs.State.{Running, Frame, StackOf, State}
use Rattle.model.specs.Outcomes.{Cost}
use Rattle.model.specs.Worlds.{thread_at}
use Rattle.model.specs.Sites.{site_at}
use Rattle.model.specs.Meanings.{meaning_of}
use Rattle.model.specs.Step.{Next, stepped}
use Rattle.data_races.specs.EventActions.{Instruction, Does, only_if, is_done, accesses_at, accesses_of}

-- a thread that is there runs, with no exception pending, and the frame on top stands at an instruction
pub record StandsAt (files : Program) (s : State) (t : ℕ) (instruction : Instruction) : Type 0 where
  pub frame : Frame
  pub rest : StackOf Value
  pub body : Body
  pub there : t < length s.world.threads
  pub stack : slice_get s.stacks t ≡ Some (state.Invocation frame ∷ rest)
  pub running : (thread_at s.world t).status ≡ Running
  pub quiet : (thread_at s.world t).pending ≡ None
  pub has_body : body_of files frame.method ≡ Some body
  pub at : site_at frame.method body frame.place.offset ≡ Some instruction.site
  pub means : meaning_of values files instruction.site ≡ Some instruction.meaning
  pub slots : instruction.slots ≡ frame.place.slots

abbrev pub DoAccessesGoOn : Type 0
DoAccessesGoOn =
    (files : Program) (frames : ℕ) (s : State) (event : Event) (instruction : Instruction) (cost : Cost) (next : State)
    → StandsAt files s event.thread instruction → stepped values files frames s event ≡ Next cost next
    → accesses_of files event s.world (Does instruction)
    ≡ only_if (is_done event.thread s.world instruction && not (is_some (thread_at next.world event.thread).pending))
    (accesses_at files s.world instruction)
