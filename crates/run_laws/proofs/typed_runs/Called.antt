-- A call of a method of the machine: what holds where it is made.
use Rattle.std.proofs.Common.{◌≡◌, ℕ, List, true, false}
use Rattle.std.specs.Prelude.{reverse}
use Rattle.model.specs.declared.event.Event.{Event}
use Rattle.model.specs.declared.value.Value.{Value}
use Rattle.model.specs.declared.value.Value.TheVariants as value
use Rattle.model.specs.Names.{Member, java_lang_thread}
use Rattle.model.specs.Classes.{Program}
use Rattle.model.specs.Operands.{values}
use Rattle.model.specs.State.{types_of, Frame, World}
use Rattle.model.specs.Frames.{at_call}
use Rattle.model.specs.Sites.{operand}
use Rattle.model.specs.Calls.{parameter_count, result_types}
use Rattle.model.specs.BuiltInMethods.{built_in_method, built_in_may, built_in_does}
use Rattle.model.specs.Step.{next_of}
use Rattle.model.specs.Typing.{has_no_receiver, argument_types}
use Rattle.model.specs.WellTyped.{is_object_in, are_typed, Awaits}
use Rattle.model.specs.Worlds.{thread_at}
use Rattle.run_laws.proofs.typed_runs.Changes.{Fits, Live, OutcomeTyped}
use Rattle.run_laws.proofs.laws.Linked.{is_of_the_machine}

-- the operands, the top first, are the arguments of the method; the frame, without them, awaits its results
pub record Called (files : Program) (event : Event) (world : World) (frame : Frame) (next : ℕ) (method : Member)
    (ops rest : List Value) : Type 0 where
  pub machine : is_of_the_machine method ≡ true
  pub fits : Fits files world
  pub live : Live world event.thread
  pub self : is_object_in files (types_of world.heap) java_lang_thread (thread_at world event.thread).object ≡ true
  pub arguments : are_typed files (types_of world.heap) (argument_types files method) (reverse ops) ≡ true
  pub receiver : has_no_receiver files method ≡ false → (r : ℕ) × (operand values ops (parameter_count method) ≡ value.Reference r)
  pub awaits : Awaits files (types_of world.heap) (result_types files method) (at_call frame rest)
  pub next_is : next ≡ next_of files frame
  pub may : built_in_may values (built_in_method method) event world ops ≡ true

-- what each built-in method has to bring about
abbrev pub BuiltInTyped : Program → Type 0
BuiltInTyped files =
    (event : Event) (world : World) (frame : Frame) (next : ℕ) (method : Member) (ops rest : List Value)
    → Called files event world frame next method ops rest
    → OutcomeTyped files event.thread world
    frame (built_in_does values files (built_in_method method) next event world frame.place.slots ops rest)
