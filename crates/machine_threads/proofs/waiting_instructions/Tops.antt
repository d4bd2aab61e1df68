-- The object on top at a monitorenter.
use Rattle.std.proofs.Common.{◌≡◌, ◌<◌, ℕ, zero, suc, List, [], ◌∷◌, length, take, Bool, true, false, Option, Some, None, refl, sym, ap, subst, ◌∙◌}
use Rattle.std.specs.Prelude.{slice_get, slice_index_or}
use Rattle.std.specs.Option.{option_map_or}
use Rattle.std.proofs.lemmas.Bool.{false≢true, and_parts}
use Rattle.std.proofs.lemmas.List.{length-map}
use Rattle.std.proofs.lemmas.Option.{slice_get_within, same_Some}
use Rattle.model.specs.Classes.{Program}
use Rattle.model.specs.LimitStands.{Bounds}
use Rattle.model.specs.ReferenceTypes.{ReferenceType, is_assignable}
use Rattle.model.specs.Types.{AReference}
use Rattle.model.specs.Objects.{any_object}
use Rattle.model.specs.Operands.{words, word_reference, pops_meet}
use Rattle.model.specs.MonitorMeanings.{may_enter_object, monitor_enter_meaning}
use Rattle.model.specs.Sites.{MeaningOf, Site}
use Rattle.model.specs.State.{ObjectOf, type_of, types_of, FrameOf, StackOf, StateOf}
use Rattle.model.specs.Worlds.{may_enter}
use Rattle.model.specs.Step.{ops_of}
use Rattle.linked_code.specs.declared.instruction.LinkedInstruction.TheVariants as linked
use Rattle.linked_code.specs.declared.method.LinkedCode.{LinkedCode}
use Rattle.linked_code.specs.declared.program.LinkedProgram.{LinkedProgram}
use Rattle.run_laws.specs.word_operands.Operands.{word_meets}
use Rattle.thread_stacks.specs.Stacks.{ShownEntry}
use Rattle.machine_state.specs.declared.state.Shared.{Shared}
use Rattle.heap.specs.monitor_events.Events.{SaysMayEnter}
use Rattle.machine_state.specs.linked_frames.Frames.{IsRunning, event_of}
use Rattle.machine_state.proofs.linked_frames.Frames.{meaning_is}
use Rattle.machine_instructions.specs.called_methods.Frames.{object_under}
use Rattle.machine_instructions.proofs.called_methods.Calling.{under_is, met, has_monitor}

first_taken : (stack : List ℕ) → slice_index_or (take 1 stack) 0 0 ≡ slice_index_or stack 0 0
first_taken [] = refl
first_taken (w ∷ stack) = refl

-- it refers to an object that is there, if it is not null
object_there : (trees : Program) (heap : List (ObjectOf ℕ)) (stack : List ℕ) (r : ℕ) → Some r ≡ word_reference (slice_index_or stack 0 0)
    → pops_meet (word_meets trees (types_of heap)) (AReference any_object ∷ []) stack ≡ true → r < length heap
object_there trees heap [] r e h = absurd (false≢true h)
object_there trees heap (zero ∷ stack) r e h = absurd cc
object_there trees heap (suc q ∷ stack) r e h =
    subst (λ n. n < length heap) (sym (same_Some r q e))
    (subst (λ n. q < n) (length-map heap type_of) (by (slice_get (types_of heap) q) refl (and_parts _ _ h).0))
  where
    by : (found : Option ReferenceType) → slice_get (types_of heap) q ≡ found
        → option_map_or (λ (type : ReferenceType). is_assignable trees type any_object) found false ≡ true → q < length (types_of heap)
    by None is h = absurd (false≢true h)
    by (Some type) is h = slice_get_within (types_of heap) q type is

module _ (trees : Program) (p : LinkedProgram) (bounds : Bounds) (inflated : List ℕ) (t : ℕ) (old : Shared) (from : List ShownEntry)
    (state : StateOf ℕ) (frame : FrameOf ℕ) (rest : StackOf ℕ) (code : LinkedCode) (site : Site) (meaning : MeaningOf ℕ)
    (is : IsRunning trees p bounds inflated t old from state frame rest code site meaning linked.MonitorEnter) where
  abbrev stack : List ℕ
  stack = frame.place.slots.stack

  -- whether the event may be is whether the object may be entered
  pub may_top : (o : Option ℕ) → o ≡ object_under 0 from
      → meaning.may (event_of t) state.world (ops_of words meaning frame.place.slots) ≡ may_enter_object state.world t o
  may_top o e =
      ap (λ (m : MeaningOf ℕ). m.may (event_of t) state.world (ops_of words m frame.place.slots)) (meaning_is trees p bounds inflated t old from state frame rest code site meaning linked.MonitorEnter is (monitor_enter_meaning words site) is.stands.linked.is)
      ∙ ap (may_enter_object state.world t) (ap word_reference (first_taken stack) ∙ sym (under_is trees p bounds inflated t old from state frame rest code site meaning linked.MonitorEnter is 0) ∙ sym e)

  -- the object has a monitor
  pub top_there : (r : ℕ) → Some r ≡ object_under 0 from → r < length old.heap.locks.monitors
  top_there r e =
      has_monitor trees p bounds inflated t old from state frame rest code site meaning linked.MonitorEnter is r
      (object_there trees state.world.heap stack r (e ∙ under_is trees p bounds inflated t old from state frame rest code site meaning linked.MonitorEnter is 0)
      (met trees p bounds inflated t old from state frame rest code site meaning linked.MonitorEnter is (monitor_enter_meaning words site) is.stands.linked.is))

  pub says_top : (r : ℕ) (answer : Bool) → SaysMayEnter answer r t old.heap → may_enter state.world t r ≡ answer
  says_top r answer says = (λ i. may_enter (record state.world { monitors = sym is.lent.represents.world_is.monitors i }) t r) ∙ sym (says state.world)
