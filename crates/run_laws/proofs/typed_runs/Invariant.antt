-- What holds of a well-typed state goes on to hold as objects are added.
use Rattle.std.proofs.Common.{◌≡◌, ℕ, List, [], ◌∷◌, true, Option, Some, None}
use Rattle.std.specs.List.{list_all}
use Rattle.model.specs.declared.value.Value.{Value}
use Rattle.model.specs.declared.value.Value.TheVariants as value
use Rattle.model.specs.Names.{Name, Member}
use Rattle.model.specs.Classes.{Program}
use Rattle.model.specs.ReferenceTypes.{ReferenceType, ClassType}
use Rattle.model.specs.Types.{VerificationType, OfType}
use Rattle.model.specs.DescribedTypes.{field_declared, made_type, verification_type}
use Rattle.model.specs.Calls.{result_types}
use Rattle.model.specs.State.{ObjectOf, Instance, Primitives, References, ThreadStatus, Running, Waiting, Relock, Ended, Thread, Frame, Invocation, Initialisation, StackOf, Characters}
use Rattle.model.specs.WellTyped.{has_type, is_object_in, is_field_typed, is_object_typed, are_typed, Stopped, Ready, Awaits, Above, Results, Instruction, Beneath, Failing, IsRunning, IsWaiting, IsStackTyped, IsThreadTyped, AreThreadsTyped}
use Rattle.run_laws.proofs.laws.Lists.{pairwise_weaken, all_weaken}
use Rattle.run_laws.proofs.laws.Order.{Extends, has_type_more}

-- about to go on, a frame is typed where it stands
pub stop : (files : Program) (os : List ReferenceType) (f : Frame) → Ready files os f → Stopped files os f
stop files os f h = h.stopped

-- what runs, or waits for results, may fail there
pub failing_from : (files : Program) (os : List ReferenceType) (above : Above) (stack : StackOf Value) → Beneath files os above stack
    → Failing files os stack
failing_from files os above [] h = tt
failing_from files os (Results types) (Invocation f ∷ stack) h = (h.0.stopped, h.1)
failing_from files os Instruction (Invocation f ∷ stack) h = (h.0.stopped, h.1)
failing_from files os above (Initialisation class phase ∷ stack) h = h

module _ (files : Program) (os ps : List ReferenceType) (x : Extends os ps) where
  pub typed_more : (ts : List VerificationType) (vs : List Value) → are_typed files os ts vs ≡ true → are_typed files ps ts vs ≡ true
  typed_more ts vs h = pairwise_weaken (has_type files os) (has_type files ps) ts vs (has_type_more files os ps x) h

  pub fields_more : (fields : List (Member × Value)) → list_all (is_field_typed files os) fields ≡ true
      → list_all (is_field_typed files ps) fields ≡ true
  fields_more fields h =
      all_weaken (is_field_typed files os) (is_field_typed files ps) fields (λ field q. has_type_more files os ps x (verification_type files (field_declared field.0.descriptor)) field.1 q) h

  pub object_typed_more : (o : ObjectOf Value) → is_object_typed files os o ≡ true → is_object_typed files ps o ≡ true
  object_typed_more (Instance class fields) h = fields_more fields h
  object_typed_more (Primitives of elements) h = h
  object_typed_more (References of elements) h =
      all_weaken (has_type files os (OfType (made_type files of))) (has_type files ps (OfType (made_type files of))) elements (λ v q. has_type_more files os ps x (OfType (made_type files of)) v q) h
  object_typed_more (Characters text) h = h

  pub object_in_more : (class : Name) (r : ℕ) → is_object_in files os class r ≡ true → is_object_in files ps class r ≡ true
  object_in_more class r h = has_type_more files os ps x (OfType (ClassType class)) (value.Reference r) h

  pub stopped_more : (f : Frame) → Stopped files os f → Stopped files ps f
  stopped_more f h = record { stands = h.stands; locals = typed_more h.stands.type.slots.locals f.place.slots.locals h.locals }

  pub ready_more : (f : Frame) → Ready files os f → Ready files ps f
  unfolding stopped_more
  ready_more f h =
      record { stopped = stopped_more f h.stopped; stack = typed_more h.stopped.stands.type.slots.stack f.place.slots.stack h.stack }

  pub awaits_more : (results : List VerificationType) (f : Frame) → Awaits files os results f → Awaits files ps results f
  unfolding stopped_more
  awaits_more results f h =
      record {
        stopped = stopped_more f h.stopped;
        after = h.after;
        rest = h.rest;
        stack_is = h.stack_is;
        locals = typed_more h.after.slots.locals f.place.slots.locals h.locals;
        stack = typed_more h.rest f.place.slots.stack h.stack;
        goes_on = h.goes_on;
      }

  pub beneath_more : (above : Above) (stack : StackOf Value) → Beneath files os above stack → Beneath files ps above stack
  beneath_more above [] h = tt
  beneath_more (Results types) (Invocation f ∷ stack) h = (awaits_more types f h.0, beneath_more (Results (result_types files f.method)) stack h.1)
  beneath_more Instruction (Invocation f ∷ stack) h = (ready_more f h.0, beneath_more (Results (result_types files f.method)) stack h.1)
  beneath_more above (Initialisation class phase ∷ stack) h = beneath_more Instruction stack h

  pub failing_more : (stack : StackOf Value) → Failing files os stack → Failing files ps stack
  failing_more [] h = tt
  failing_more (Invocation f ∷ stack) h = (stopped_more f h.0, beneath_more (Results (result_types files f.method)) stack h.1)
  failing_more (Initialisation class phase ∷ stack) h = beneath_more Instruction stack h

  running_more : (pending : Option ℕ) (stack : StackOf Value) → IsRunning files os pending stack → IsRunning files ps pending stack
  running_more None stack h = beneath_more Instruction stack h
  running_more (Some exception) stack h = (object_in_more _ exception h.0, failing_more stack h.1)

  waiting_more : (pending : Option ℕ) (object : ℕ) (stack : StackOf Value) → IsWaiting files os pending object stack
      → IsWaiting files ps pending object stack
  waiting_more pending object stack h = (h.0, (object_in_more _ object h.1.0, beneath_more (Results []) stack h.1.1))

  stack_more : (pending : Option ℕ) (stack : StackOf Value) (status : ThreadStatus) → IsStackTyped files os pending stack status
      → IsStackTyped files ps pending stack status
  stack_more pending stack Running h = running_more pending stack h
  stack_more pending stack (Waiting object count) h = waiting_more pending object stack h
  stack_more pending stack (Relock object count cause) h = waiting_more pending object stack h
  stack_more pending stack (Ended exception) h = tt

  pub thread_more : (thread : Thread) (stack : StackOf Value) → IsThreadTyped files os thread stack → IsThreadTyped files ps thread stack
  thread_more thread stack h =
      record { object = object_in_more _ thread.object h.object; stack_typed = stack_more thread.pending stack thread.status h.stack_typed }

  pub threads_more : (threads : List Thread) (stacks : List (StackOf Value)) → AreThreadsTyped files os threads stacks
      → AreThreadsTyped files ps threads stacks
  threads_more [] [] h = tt
  threads_more [] (stack ∷ stacks) h = absurd h
  threads_more (thread ∷ threads) [] h = absurd h
  threads_more (thread ∷ threads) (stack ∷ stacks) h = (thread_more thread stack h.0, threads_more threads stacks h.1)
