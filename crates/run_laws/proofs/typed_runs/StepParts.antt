-- What a step of a thread leaves: a world that it may leave, with its own stack typed. And the exceptions that the
-- machine makes.
use Rattle.std.proofs.Common.{◌≡◌, ℕ, [], ◌∷◌, ◌++◌, length, true, false, Option, Some, None, refl, sym, ap, ◌∙◌, subst}
use Rattle.std.specs.Prelude.{slice_get}
use Rattle.std.proofs.lemmas.Bool.{false≢true, eq-eqb}
use Rattle.std.proofs.lemmas.Option.{get_or_from_slice_get}
use Rattle.model.specs.declared.value.Value.{Value}
use Rattle.model.specs.declared.value.Value.TheVariants as value
use Rattle.model.specs.Names.{java_lang_throwable}
use Rattle.model.specs.BuiltIn.{built_in_classes}
use Rattle.model.specs.Classes.{Program, is_within}
use Rattle.model.specs.ReferenceTypes.{ClassType}
use Rattle.model.specs.Types.{OfType, is_object_below}
use Rattle.model.specs.State.{ObjectOf, type_of, types_of, ThreadStatus, Running, Relock, Thread, StackOf, World}
use Rattle.model.specs.Outcomes.{MachineException, exception_class, NullPointer, Arithmetic, ArrayIndexOutOfBounds, StringIndexOutOfBounds, NegativeArraySize, CloneNotSupported, ArrayStore, ClassCast, IllegalMonitorState, IllegalThreadState, InterruptedWait, IncompatibleClassChange, AbstractMethod, StackOverflow, NoClassDefFound, ExceptionInInitializer}
use Rattle.model.specs.Worlds.{no_thread, thread_at, with_thread, with_pending, with_interrupted, allocated}
use Rattle.model.specs.Step.{SteppedOf, NotEnabled, WrongKind, Next, PartOf, part, raised_for, raised, raised_by_interrupt}
use Rattle.model.specs.WellTyped.{is_object_in, is_waiting_for, Failing, IsRunning, IsStackTyped}
use Rattle.run_laws.specs.laws.Steps.{Rooted}
use Rattle.run_laws.proofs.laws.Classes.{within_subclass}
use Rattle.run_laws.proofs.laws.Order.{stack_above}
use Rattle.run_laws.proofs.typed_runs.Invariant.{failing_more}
use Rattle.model.specs.MachineExceptions.{machine_exception}
use Rattle.model.specs.Operands.{values}
use Rattle.run_laws.proofs.typed_runs.Exceptions.{IsCause, cause_more, exception_typed, exception_type}
use Rattle.run_laws.proofs.typed_runs.Objects.{added_extends, added_below}
use Rattle.run_laws.proofs.typed_runs.Changes.{Moved, Same, Wakes, Fits, Changes, Live}
use Rattle.run_laws.proofs.typed_runs.Threads.{get_set_at}
use Rattle.run_laws.proofs.typed_runs.WorldChanges.{Keeps, extends_trans, changes_of, changes_trans, self_keeps, allocated_keeps, own_changes}

-- it waits for nothing
abbrev pub IsIdle : Thread → Type 0
IsIdle thread = (object : ℕ) → is_waiting_for object thread.status ≡ false

-- the thread t in the midst of its event, in a world that the event may leave
pub record At (files : Program) (t : ℕ) (before world : World) (thread : Thread) : Type 0 where
  pub changes : Changes files t before world
  pub there : slice_get world.threads t ≡ Some thread
  pub idle : IsIdle thread

-- what an event of the thread t leaves
pub record PartTyped (files : Program) (t : ℕ) (before : World) (p : PartOf Value) : Type 0 where
  pub changes : Changes files t before p.world
  pub thread : Thread
  pub there : slice_get p.world.threads t ≡ Some thread
  -- with an empty stack it waits for nothing
  pub idle : p.stack ≡ [] → IsIdle thread
  pub stack_typed : IsStackTyped files (types_of p.world.heap) thread.pending p.stack thread.status

abbrev pub OnPart : Program → ℕ → World → SteppedOf (PartOf Value) → Type 0
OnPart files t before NotEnabled = Unit {0}
OnPart files t before WrongKind = Unit {0}
OnPart files t before (Next cost p) = PartTyped files t before p

pub idle_running : (thread : Thread) → thread.status ≡ Running → IsIdle thread
idle_running thread e object = ap (is_waiting_for object) e

pub idle_relock : (thread : Thread) (object count : ℕ) (cause : _) → thread.status ≡ Relock object count cause → IsIdle thread
idle_relock thread object count cause e other = ap (is_waiting_for other) e

-- what an exception of the machine is below (JVMS 2.10)
fault_within : (files : Program) (fault : MachineException) → is_within files 5 (exception_class fault) java_lang_throwable ≡ true
unfolding built_in_classes
fault_within files NullPointer = refl
fault_within files Arithmetic = refl
fault_within files ArrayIndexOutOfBounds = refl
fault_within files StringIndexOutOfBounds = refl
fault_within files NegativeArraySize = refl
fault_within files CloneNotSupported = refl
fault_within files ArrayStore = refl
fault_within files ClassCast = refl
fault_within files IllegalMonitorState = refl
fault_within files IllegalThreadState = refl
fault_within files InterruptedWait = refl
fault_within files IncompatibleClassChange = refl
fault_within files AbstractMethod = refl
fault_within files StackOverflow = refl
fault_within files NoClassDefFound = refl
fault_within files ExceptionInInitializer = refl

moved_idle : (a b : ThreadStatus) → Moved a b → ((object : ℕ) → is_waiting_for object a ≡ false) → b ≡ a
moved_idle a b (Same e) w = e
moved_idle a b (Wakes o n k c was is) w =
    let waits : is_waiting_for o a ≡ true = subst (λ s. is_waiting_for o s ≡ true) (sym was) (eq-eqb o o refl) in
    absurd (false≢true (sym (w o) ∙ waits))

-- the same thread in a world that keeps it
pub record KeptAt (files : Program) (t : ℕ) (before world : World) (old : Thread) : Type 0 where
  pub thread : Thread
  pub at : At files t before world thread
  pub pending : thread.pending ≡ old.pending
  pub status : thread.status ≡ old.status

module _ (files : Program) (t : ℕ) (before : World) (first : Thread) (was : slice_get before.threads t ≡ Some first) where
  -- ---- on to another world

  pub at_keeps : (a b : World) (thread : Thread) → At files t before a thread → Keeps files a b → KeptAt files t before b thread
  at_keeps a b thread at x =
      let s = x.threads.still t thread at.there in
      let same = moved_idle thread.status s.thread.status s.kept.status at.idle in
      record {
        thread = s.thread;
        at = record {
          changes = changes_trans files t before a b first was at.changes (changes_of files t a b x);
          there = s.there;
          idle = λ object. ap (is_waiting_for object) same ∙ at.idle object;
        };
        pending = s.kept.pending;
        status = same;
      }

  -- its threads are the same
  pub at_same : (a b : World) (thread : Thread) → At files t before a thread → Keeps files a b → b.threads ≡ a.threads
      → At files t before b thread
  at_same a b thread at x e =
      record {
        changes = changes_trans files t before a b first was at.changes (changes_of files t a b x);
        there = ap (λ ths. slice_get ths t) e ∙ at.there;
        idle = at.idle;
      }

  -- the thread itself is changed
  pub own_at : (a : World) (thread new : Thread) → At files t before a thread → new.object ≡ (thread_at a t).object → IsIdle new
      → At files t before (with_thread a t new) new
  own_at a thread new at o idle =
      let is = get_or_from_slice_get a.threads t thread no_thread at.there in
      record {
        changes = changes_trans files t before a (with_thread a t new) first was at.changes (own_changes files a at.changes.fits t thread new at.there (o ∙ ap (λ (th : Thread). th.object) is) (λ object q. absurd (false≢true (sym (at.idle object) ∙ q))));
        there = get_set_at a.threads t thread new at.there;
        idle = idle;
      }

  -- ---- what is left

  pub on_typed : (world : World) (thread : Thread) (stack : StackOf Value) → At files t before world thread → thread.status ≡ Running
      → IsRunning files (types_of world.heap) thread.pending stack → PartTyped files t before (part world stack)
  on_typed world thread stack at runs h =
      record {
        changes = at.changes;
        thread = thread;
        there = at.there;
        idle = λ e. at.idle;
        stack_typed = subst (λ s. IsStackTyped files (types_of world.heap) thread.pending stack s) (sym runs) h;
      }

  module _ (rooted : Rooted files) where
    -- an exception is pending
    pub pending_typed : (world : World) (thread : Thread) (exception : ℕ) (stack : StackOf Value) → At files t before world thread
        → thread.status ≡ Running → is_object_in files (types_of world.heap) java_lang_throwable exception ≡ true
        → Failing files (types_of world.heap) stack → PartTyped files t before (part (with_pending world t exception) stack)
    pending_typed world thread exception stack at runs h failing =
        let new = record (thread_at world t) { pending = Some exception } in
        let status = ap (λ (th : Thread). th.status) (get_or_from_slice_get world.threads t thread no_thread at.there) ∙ runs in
        on_typed (with_thread world t new) new stack (own_at world thread new at refl (idle_running new status)) status (h, failing)

    fault_typed : (fault : MachineException) (o : ObjectOf Value) → type_of o ≡ ClassType (exception_class fault) → (world : World)
        → Fits files world → is_object_in files (types_of (world.heap ++ o ∷ [])) java_lang_throwable (length world.heap) ≡ true
    fault_typed fault o is world fits =
        let os = types_of (world.heap ++ o ∷ []) in
        let class = exception_class fault in
        stack_above files rooted os (OfType (ClassType class)) (OfType (ClassType java_lang_throwable)) (value.Reference (length world.heap)) (within_subclass files rooted 5 class java_lang_throwable (fault_within files fault))
        (subst (λ t. is_object_below files t (slice_get os (length world.heap)) ≡ true) is (added_below files world.heap fits.heap o))

    -- the machine makes an exception, whose cause is there
    pub raised_for_typed : (fault : MachineException) (cause : Option ℕ) (world : World) (thread : Thread) (stack : StackOf Value)
        → IsCause files (types_of world.heap) cause → At files t before world thread → thread.status ≡ Running
        → Failing files (types_of world.heap) stack → OnPart files t before (raised_for values files t fault cause world stack)
    raised_for_typed fault cause world thread stack is at runs failing =
        let fits = at.changes.fits in
        let o = machine_exception values files fault cause in
        let added = added_extends files world.heap fits.heap o in
        let x = allocated_keeps files world fits o (exception_typed files (types_of (world.heap ++ o ∷ [])) (extends_trans _ _ _ fits.opened added) fault cause (cause_more files _ _ added cause is)) in
        pending_typed (allocated world o) thread (length world.heap) stack (at_same world (allocated world o) thread at x refl) runs (fault_typed fault o (exception_type files fault cause) world fits) (failing_more files _ _ x.extends stack failing)

    pub raised_typed : (fault : MachineException) (world : World) (thread : Thread) (stack : StackOf Value)
        → At files t before world thread → thread.status ≡ Running → Failing files (types_of world.heap) stack
        → OnPart files t before (raised values files t fault world stack)
    raised_typed fault world thread stack at runs failing = raised_for_typed fault None world thread stack tt at runs failing

    pub interrupted_typed : (world : World) (thread : Thread) (stack : StackOf Value) → At files t before world thread
        → thread.status ≡ Running → Failing files (types_of world.heap) stack → OnPart files t before (raised_by_interrupt values files t world stack)
    interrupted_typed world thread stack at runs failing =
        let new = record (thread_at world t) { interrupted = false } in
        let status = ap (λ (th : Thread). th.status) (get_or_from_slice_get world.threads t thread no_thread at.there) ∙ runs in
        raised_typed InterruptedWait (with_interrupted world t false) new stack (own_at world thread new at refl (idle_running new status)) status failing

pub self_at : (files : Program) (t : ℕ) (world : World) (thread : Thread) → Fits files world → slice_get world.threads t ≡ Some thread
    → IsIdle thread → At files t world world thread
self_at files t world thread fits there idle =
    record { changes = changes_of files t world world (self_keeps files world fits); there = there; idle = idle }

pub live_at : (files : Program) (t : ℕ) (before world : World) → Changes files t before world → (live : Live world t)
    → At files t before world live.thread
live_at files t before world changes live =
    record { changes = changes; there = live.there; idle = idle_running live.thread live.status }
