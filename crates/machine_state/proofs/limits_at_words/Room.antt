-- References of a well-typed state have words of 32 bits, where there are fewer than 2^32 objects.
use Rattle.std.proofs.Common.{◌≡◌, ℕ, zero, suc, ◌<◌, ◌^◌, List, [], ◌∷◌, map, length, Bool, true, false, Option, Some, None, refl, sym, ◌∙◌, subst, arith}
use Rattle.std.specs.Prelude.{slice_get}
use Rattle.std.specs.List.{list_all}
use Rattle.std.proofs.lemmas.Bool.{false≢true, true≢false, and_parts, ltb-true}
use Rattle.std.proofs.lemmas.List.{length-map}
use Rattle.std.proofs.lemmas.Option.{same_Some}
use Rattle.model.specs.declared.value.Value.{Value}
use Rattle.model.specs.declared.value.Value.TheVariants as value
use Rattle.model.specs.Names.{Name, Member}
use Rattle.model.specs.Classes.{Program}
use Rattle.model.specs.ReferenceTypes.{ClassType}
use Rattle.model.specs.Types.{VerificationType, Unusable, IntType, NullType, OfType, Uninitialised, UninitialisedThis, is_usable, is_int_value}
use Rattle.model.specs.DescribedTypes.{DeclaredType, DeclaredInt, DeclaredReference, field_declared, verification_type, made_type}
use Rattle.model.specs.Operands.{word_of}
use Rattle.model.specs.State.{ObjectOf, Instance, Primitives, References, Characters, types_of, ThreadStatus, Running, Waiting, Relock, Ended, Thread, StackOf, StateOf}
use Rattle.model.specs.Worlds.{has_ended}
use Rattle.model.specs.WellTyped.{has_type, is_object_in, is_field_typed, is_object_typed, are_typed, IsStackTyped, IsThreadTyped, AreThreadsTyped}
use Rattle.model.specs.Words.{map_object}
use Rattle.run_laws.specs.object_counts.Bounds.{is_reference_in}
use Rattle.run_laws.proofs.object_counts.References.{are_objects}
use Rattle.machine_state.specs.limits_at_words.Room.{Fits, IsFitting, AreFitting, cell_values, AreSlotsFitting, IsStatusFitting, IsThreadFitting, AreReferencesFitting, AreThreadsFitting}

none_some : {A : Type 0} (x : A) → None ≡ Some x → ⊥
none_some x e = absurd cc

all_at : {A : Type 0} (p : A → Bool) (xs : List A) (k : ℕ) (x : A) → list_all p xs ≡ true → slice_get xs k ≡ Some x → p x ≡ true
all_at p [] k x h e = absurd cc
all_at p (y ∷ ys) zero x h e = let q : y ≡ x = cc in subst (λ z. p z ≡ true) q (and_parts _ _ h).0
all_at p (y ∷ ys) (suc k) x h e = all_at p ys k x (and_parts _ _ h).1 e

fitting : (objects : ℕ) (v : Value) → objects < 2 ^ 32 → is_reference_in objects v ≡ true → IsFitting objects v
fitting objects value.Unset few h = absurd (false≢true h)
fitting objects (value.Int bits) few h = absurd (false≢true h)
fitting objects value.Null few h = λ r e. absurd (none_some r e)
fitting objects (value.Reference q) few h =
    λ r e. subst (Fits objects) (same_Some q r e) (record { there = ltb-true q objects h; word = omega (arith, few, ltb-true q objects h) })

int_fits : (objects : ℕ) (v : Value) → is_int_value v ≡ true → IsFitting objects v
int_fits objects value.Unset h = λ r e. absurd (none_some r e)
int_fits objects (value.Int bits) h = λ r e. absurd (none_some r e)
int_fits objects value.Null h = λ r e. absurd (none_some r e)
int_fits objects (value.Reference q) h = absurd (false≢true h)

module _ (files : Program) (heap : List (ObjectOf Value)) (few : length heap < 2 ^ 32) where
  usable_fits : (type : VerificationType) (v : Value) → is_usable type ≡ true → has_type files (types_of heap) type v ≡ true
      → IsFitting (length heap) v
  usable_fits Unusable v u h = absurd (false≢true u)
  usable_fits IntType v u h = int_fits (length heap) v h
  usable_fits NullType v u h = fitting (length heap) v few (are_objects files heap NullType v refl h)
  usable_fits (OfType t) v u h = fitting (length heap) v few (are_objects files heap (OfType t) v refl h)
  usable_fits (Uninitialised at c) v u h = fitting (length heap) v few (are_objects files heap (Uninitialised at c) v refl h)
  usable_fits (UninitialisedThis c) v u h = fitting (length heap) v few (are_objects files heap (UninitialisedThis c) v refl h)

  object_fits : (class : Name) (r : ℕ) → is_object_in files (types_of heap) class r ≡ true → Fits (length heap) r
  object_fits class r h = usable_fits (OfType (ClassType class)) (value.Reference r) refl h r refl

  -- ---- objects and static fields

  declared_usable : (d : DeclaredType) → is_usable (verification_type files d) ≡ true
  declared_usable DeclaredInt = refl
  declared_usable (DeclaredReference t) = refl

  field_fits : (field : Member × Value) → is_field_typed files (types_of heap) field ≡ true → IsFitting (length heap) field.1
  field_fits field h = usable_fits (verification_type files (field_declared field.0.descriptor)) field.1 (declared_usable (field_declared field.0.descriptor)) h

  fields_fit : (fields : List (Member × Value)) → list_all (is_field_typed files (types_of heap)) fields ≡ true
      → AreFitting (length heap) (map (λ (field : Member × Value). field.1) fields)
  fields_fit [] h k v e = absurd cc
  fields_fit (field ∷ fields) h zero v e =
      let same : field.1 ≡ v = cc in
      subst (IsFitting (length heap)) same (field_fits field (and_parts _ _ h).0)
  fields_fit (field ∷ fields) h (suc k) v e = fields_fit fields (and_parts _ _ h).1 k v e

  cells_fit : (o : ObjectOf Value) → is_object_typed files (types_of heap) o ≡ true → AreFitting (length heap) (cell_values o)
  cells_fit (Instance class fields) h = fields_fit fields h
  cells_fit (Primitives of elements) h = λ k v e. int_fits (length heap) v (all_at is_int_value elements k v h e)
  cells_fit (References of elements) h =
      λ k v e. usable_fits (OfType (made_type files of)) v refl (all_at (has_type files (types_of heap) (OfType (made_type files of))) elements k v h e)
  cells_fit (Characters text) h = λ k v e. absurd cc

  -- ---- threads

  pending_fits : (pending : Option ℕ) (stack : StackOf Value) (status : ThreadStatus)
      → IsStackTyped files (types_of heap) pending stack status → (exception : ℕ) → has_ended status ≡ false → pending ≡ Some exception
      → Fits (length heap) exception
  pending_fits None stack Running h exception a e = absurd (none_some exception e)
  pending_fits (Some found) stack Running h exception a e = subst (Fits (length heap)) (same_Some found exception e) (object_fits _ found h.0)
  pending_fits pending stack (Waiting object count) h exception a e = absurd (none_some exception (sym h.0 ∙ e))
  pending_fits pending stack (Relock object count cause) h exception a e = absurd (none_some exception (sym h.0 ∙ e))
  pending_fits pending stack (Ended thrown) h exception a e = absurd (true≢false a)

  status_fits : (pending : Option ℕ) (stack : StackOf Value) (status : ThreadStatus)
      → IsStackTyped files (types_of heap) pending stack status → IsStatusFitting (length heap) status
  status_fits pending stack Running h = tt
  status_fits pending stack (Waiting object count) h = object_fits _ object h.1.0
  status_fits pending stack (Relock object count cause) h = object_fits _ object h.1.0
  status_fits pending stack (Ended thrown) h = tt

  thread_fits : (thread : Thread) (stack : StackOf Value) → IsThreadTyped files (types_of heap) thread stack
      → IsThreadFitting (length heap) thread
  thread_fits thread stack h =
      record {
        object = object_fits _ thread.object h.object;
        pending = λ exception a e. pending_fits thread.pending stack thread.status h.stack_typed exception a e;
        status = status_fits thread.pending stack thread.status h.stack_typed;
      }

  threads_fit : (threads : List Thread) (stacks : List (StackOf Value)) → AreThreadsTyped files (types_of heap) threads stacks → (t : ℕ)
      (thread : Thread) → slice_get threads t ≡ Some thread → IsThreadFitting (length heap) thread
  threads_fit [] stacks h t thread e = absurd cc
  threads_fit (x ∷ xs) [] h t thread e = absurd h
  threads_fit (x ∷ xs) (stack ∷ stacks) h zero thread e =
      let same : x ≡ thread = cc in
      subst (IsThreadFitting (length heap)) same (thread_fits x stack h.0)
  threads_fit (x ∷ xs) (stack ∷ stacks) h (suc t) thread e = threads_fit xs stacks h.1 t thread e

  -- ---- frames

  slots_fit : (types : List VerificationType) (vs : List Value) → are_typed files (types_of heap) types vs ≡ true
      → AreSlotsFitting (length heap) types vs
  slots_fit [] vs h k type v e f u = absurd cc
  slots_fit (t ∷ ts) [] h k type v e f u = absurd cc
  slots_fit (t ∷ ts) (x ∷ xs) h zero type v e f u =
      let types : t ≡ type = cc in
      let vs : x ≡ v = cc in
      subst (IsFitting (length heap)) vs (usable_fits t x (subst (λ s. is_usable s ≡ true) (sym types) u) (and_parts _ _ h).0)
  slots_fit (t ∷ ts) (x ∷ xs) h (suc k) type v e f u = slots_fit ts xs (and_parts _ _ h).1 k type v e f u

pub references_fit : AreReferencesFitting
references_fit files state h few =
    let heap = state.world.heap in
    record {
      cells = λ object o e. cells_fit files heap few o (all_at (is_object_typed files (types_of heap)) heap object o h.heap e);
      statics = fields_fit files heap few state.world.statics h.statics;
      threads = threads_fit files heap few state.world.threads state.stacks h.threads;
      stopped = λ frame k. slots_fit files heap few k.stands.type.slots.locals frame.place.slots.locals k.locals;
      ready = λ frame k. slots_fit files heap few k.stopped.stands.type.slots.stack frame.place.slots.stack k.stack;
      awaits = λ frame results k. (
        slots_fit files heap few k.after.slots.locals frame.place.slots.locals k.locals,
        slots_fit files heap few k.rest frame.place.slots.stack k.stack,
      );
    }

-- of so many objects, what a thread keeps beside its stack
abbrev KeptAt : ℕ → List Thread → Type 0
KeptAt objects threads = objects < 2 ^ 32 → (t : ℕ) (thread : Thread) → slice_get threads t ≡ Some thread → IsThreadFitting objects thread

pub thread_words_fit : AreThreadsFitting
thread_words_fit files words h =
    let state = h.0 in
    let heap = state.world.heap in
    let of_values : KeptAt (length heap) state.world.threads = λ few. threads_fit files heap few state.world.threads state.stacks h.1.typed.threads in
    subst (λ (w : StateOf ℕ). KeptAt (length w.world.heap) w.world.threads) (sym h.1.are)
    (subst (λ n. KeptAt n state.world.threads) (sym (length-map heap (map_object word_of))) of_values)
