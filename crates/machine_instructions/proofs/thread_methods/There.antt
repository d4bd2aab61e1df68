-- What is there at a call: the receiver has a monitor, and each thread its object and the object on which it waits.
use Rattle.std.proofs.Common.{◌≡◌, ◌<◌, ◌-◌, ℕ, zero, suc, List, [], ◌∷◌, length, take, Bool, true, Option, refl, sym, ap, subst, arith, ◌∙◌}
use Rattle.std.proofs.lemmas.Bool.{ltb-true}
use Rattle.std.proofs.lemmas.List.{length-map}
use Rattle.std.proofs.lemmas.Option.{slice_get_within}
use Rattle.model.specs.declared.value.Value.{Value}
use Rattle.model.specs.declared.value.Value.TheVariants as value
use Rattle.model.specs.Names.{Name}
use Rattle.model.specs.Classes.{Program}
use Rattle.model.specs.LimitStands.{Bounds}
use Rattle.model.specs.ReferenceTypes.{ClassType}
use Rattle.model.specs.Types.{OfType}
use Rattle.model.specs.Operands.{word_of}
use Rattle.model.specs.State.{ObjectOf, types_of, ThreadStatus, Running, Waiting, Relock, Ended, Thread, Monitor, FrameOf, StackOf, StateOf}
use Rattle.model.specs.WellTyped.{is_object_in, IsStackTyped, AreThreadsTyped}
use Rattle.model.specs.Words.{map_object}
use Rattle.run_laws.proofs.object_counts.References.{are_objects}
use Rattle.heap.specs.java_threads.Table.{thread_at as row_at}
use Rattle.machine_state.proofs.shown_objects.Objects.{counted}
use Rattle.linked_code.specs.declared.method.BuiltInMethod.{BuiltInMethod}
use Rattle.linked_code.specs.declared.program.LinkedProgram.{LinkedProgram}
use Rattle.thread_stacks.specs.Stacks.{ShownEntry}
use Rattle.machine_state.specs.declared.state.Shared.{Shared}
use Rattle.heap.specs.monitor_events.Tables.{IsStatusWithin, AreStatusesWithin}
use Rattle.machine_instructions.specs.thread_methods.Called.{RefersTo, IsCalling}
use Rattle.machine_instructions.specs.thread_methods.Moves.{operand_of}
use Rattle.machine_instructions.proofs.thread_methods.Calls.{object_is}

-- ---- well-typed threads

module _ (files : Program) (heap : List (ObjectOf Value)) where
  object_there : (class : Name) (r : ℕ) → is_object_in files (types_of heap) class r ≡ true → r < length heap
  object_there class r h = ltb-true r (length heap) (are_objects files heap (OfType (ClassType class)) (value.Reference r) refl h)

  status_there : (pending : Option ℕ) (stack : StackOf Value) (status : ThreadStatus)
      → IsStackTyped files (types_of heap) pending stack status → IsStatusWithin (length heap) status
  status_there pending stack Running h = tt
  status_there pending stack (Waiting object count) h = object_there _ object h.1.0
  status_there pending stack (Relock object count cause) h = tt
  status_there pending stack (Ended thrown) h = tt

  statuses_there : (threads : List Thread) (stacks : List (StackOf Value)) → AreThreadsTyped files (types_of heap) threads stacks → (t : ℕ)
      → IsStatusWithin (length heap) (row_at threads t).status
  statuses_there [] stacks h t = tt
  statuses_there (thread ∷ threads) [] h t = absurd h
  statuses_there (thread ∷ threads) (stack ∷ stacks) h zero = status_there thread.pending stack thread.status h.0.stack_typed
  statuses_there (thread ∷ threads) (stack ∷ stacks) h (suc t) = statuses_there threads stacks h.1 t

  own_there : (threads : List Thread) (stacks : List (StackOf Value)) → AreThreadsTyped files (types_of heap) threads stacks → (t : ℕ)
      → t < length stacks
      → (t < length threads) × ((row_at threads t).object < length heap)
  own_there [] [] h t l = absurd (omega (arith, l))
  own_there [] (stack ∷ stacks) h t l = absurd h
  own_there (thread ∷ threads) [] h t l = absurd h
  own_there (thread ∷ threads) (stack ∷ stacks) h zero l = (omega arith, object_there _ thread.object h.0.object)
  own_there (thread ∷ threads) (stack ∷ stacks) h (suc t) l = let r = own_there threads stacks h.1 t (omega (arith, l)) in (omega (arith, r.0), r.1)

-- ---- a call

module _ (trees : Program) (p : LinkedProgram) (bounds : Bounds) (inflated : List ℕ) (t : ℕ) (old : Shared) (from : List ShownEntry)
    (state : StateOf ℕ) (frame : FrameOf ℕ) (rest : StackOf ℕ) (called : BuiltInMethod) (count next offset : ℕ)
    (is : IsCalling trees p bounds inflated t old from state frame rest called count next offset) where
  -- the objects of the state, each with a monitor
  objects_are : length old.heap.objects ≡ length state.world.heap
  objects_are = counted trees p.components.items old.heap.objects state.world.heap is.lent.represents.world_is.objects

  pub monitors_are : length old.heap.locks.monitors ≡ length state.world.heap
  monitors_are =
      ap (λ (ms : List Monitor). length ms) is.lent.represents.world_is.monitors
      ∙ subst (λ (s : StateOf ℕ). length s.world.monitors ≡ length s.world.heap) (sym is.lent.typed.1.are)
      (is.lent.typed.1.typed.monitors ∙ sym (length-map is.lent.typed.0.world.heap (map_object word_of)))

  pub receiver_there : (test : ObjectOf ℕ → Bool) → RefersTo state.world.heap (take count frame.place.slots.stack) 0 test
      → operand_of 0 from - 1 < length old.heap.locks.monitors
  receiver_there test refers =
      subst (λ n. operand_of 0 from - 1 < n) (sym monitors_are)
      (subst (λ n. n < length state.world.heap) (sym (object_is trees p bounds inflated t old from state frame rest called count next offset is 0 test refers))
      (slice_get_within state.world.heap refers.reference refers.object refers.there))

  -- so many objects and threads as the state of values has
  heap_is : length is.lent.typed.0.world.heap ≡ length state.world.heap
  heap_is = sym (length-map is.lent.typed.0.world.heap (map_object word_of)) ∙ ap (λ (s : StateOf ℕ). length s.world.heap) (sym is.lent.typed.1.are)

  threads_are : is.lent.typed.0.world.threads ≡ old.threads.threads
  threads_are = ap (λ (s : StateOf ℕ). s.world.threads) (sym is.lent.typed.1.are) ∙ sym is.lent.represents.world_is.threads

  stacks_are : length is.lent.typed.0.stacks ≡ length state.stacks
  stacks_are = sym (length-map is.lent.typed.0.stacks _) ∙ ap (λ (s : StateOf ℕ). length s.stacks) (sym is.lent.typed.1.are)

  pub statuses_within : AreStatusesWithin old.heap old.threads
  statuses_within k =
      subst (λ (threads : List Thread). IsStatusWithin (length old.heap.locks.monitors) (row_at threads k).status) threads_are
      (subst (λ n. IsStatusWithin n (row_at is.lent.typed.0.world.threads k).status) (heap_is ∙ sym monitors_are)
      (statuses_there trees is.lent.typed.0.world.heap is.lent.typed.0.world.threads is.lent.typed.0.stacks is.lent.typed.1.typed.threads k))

  pub thread_there : (t < length old.threads.threads) × ((row_at old.threads.threads t).object < length old.heap.objects)
  thread_there =
      subst (λ (threads : List Thread). (t < length threads) × ((row_at threads t).object < length old.heap.objects)) threads_are
      (subst (λ n. (t < length is.lent.typed.0.world.threads) × ((row_at is.lent.typed.0.world.threads t).object < n)) (heap_is ∙ sym objects_are)
      (own_there trees is.lent.typed.0.world.heap is.lent.typed.0.world.threads is.lent.typed.0.stacks is.lent.typed.1.typed.threads t
      (subst (λ n. t < n) (sym stacks_are) (slice_get_within state.stacks t _ is.lent.is_own))))
