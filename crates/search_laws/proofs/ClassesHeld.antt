-- Which classes a thread initialises: those on its stack, whatever the others do (JVMS 5.5).
use Rattle.std.proofs.Common.{◌≡◌, ℕ, zero, suc, List, [], ◌∷◌, nat_lt, Bool, true, false, ◌==◌, if◌then◌else◌, Option, Some, None, refl, sym, ap, ◌∙◌, subst, ◌&&◌}
use Rattle.std.specs.Prelude.{slice_get, length}
use Rattle.std.specs.Option.{option_map_or, option_and_then}
use Rattle.model.specs.declared.event.Event.{Event}
use Rattle.model.specs.declared.class_file.ExceptionEntry.{ExceptionEntry}
use Rattle.model.specs.declared.value.Value.{Value}
use Rattle.model.specs.Classes.{Program, Body, body_of, class_of}
use Rattle.model.specs.ClassInitialisation.{status_of, with_status_in, with_class_status, with_class_begun, constant_value, with_constant, with_constants, Look, IsReady, IsNew, IsHeld, HasFailed, look_by}
use Rattle.model.specs.Frames.{frame_with, entered_by, frame_count, at_call}
use Rattle.model.specs.Lookup.{select, field_member}
use Rattle.model.specs.Meanings.{meaning_of}
use Rattle.model.specs.Monitors as monitors
use Rattle.model.specs.Names.{Name, Member, main_of, thread_run, initialiser_of, java_lang_error, name_eq}
use Rattle.model.specs.Opening.{arguments_reference, class_reference, opening_count}
use Rattle.model.specs.Operands.{values, under}
use Rattle.model.specs.Outcomes.{MachineException, OutcomeOf, Goes, Raises, Throws, Interrupts, Calls, Returns, Waits, NoClassDefFound, StackOverflow, IllegalMonitorState, InterruptedWait, AbstractMethod, ExceptionInInitializer}
use Rattle.model.specs.ReferenceTypes.{ReferenceType, ClassType}
use Rattle.model.specs.Sites.{MeaningOf, Site, site_at}
use Rattle.model.specs.State.{types_of, ClassStatus, NotInitialised, InProgress, Initialised, Erroneous, WakeCause, Notified, Interrupted, ThreadStatus, Running, Waiting, Relock, Ended, Frame, Phase, Super, End, Invocation, Initialisation, StackOf, World}
use Rattle.model.specs.Step.{SteppedOf, NotEnabled, WrongKind, Next, PartOf, part, on_to, enabled_if, unpicked, is_over, ended, with_end, end_of, raised, needing, needing_class, entering, pushed, leaving, returned, become, ops_of, bytecode_by, bytecode_in, initialiser_event, before, initialisation_event, initial_class, main_frame, run_frame, run_of, begin_event, handler_in, unwound, failed, pending_event, after_wait, relock_event, running_event, going_event, thread_event}
use Rattle.model.specs.Tree.{Entry, FieldTree, FileTree}
use Rattle.model.specs.Types.{is_object_of}
use Rattle.model.specs.MachineExceptions.{machine_exception}
use Rattle.model.specs.Worlds.{thread_at, with_thread, with_begun, with_pending, with_caught, with_status, with_interrupted, with_static, put_value, allocated, object_at, class_of_object, is_owner, may_enter, with_entry, entry_cost, with_exit, with_monitors, is_done, value_in}
use Rattle.run_laws.proofs.laws.Classes.{names_same}
use Rattle.run_laws.proofs.laws.Operations.{OfMeaning}
use Rattle.run_laws.specs.interleavings.Local.{is_going}
use Rattle.search_laws.specs.Writes.{Variables, Statics, site_written, body_written, stack_written, KeepsVariables}
use Rattle.search_laws.specs.Texts.{KeepsTexts}
use Rattle.search_laws.proofs.Variables.{value_other}
use Rattle.search_laws.proofs.Spares.{SparesMonitors, Spares, Permits, itself, threads_aside, with_object_made, entry_spares, exit_spares, relock_spares, all_leave, OutcomeSpares, DoesSpare, meaning_spares}

-- the classes that the stack initialises, the top first
abbrev pub initialising : StackOf Value → List Name
initialising [] = []
initialising (Invocation frame ∷ stack) = initialising stack
initialising (Initialisation class phase ∷ stack) = class ∷ initialising stack

-- what an event of the thread does to classes, and to those that its stack initialises
pub data ClassChange (v : ℕ) (world : World) (old : StackOf Value) (p : PartOf Value) : Type 0 where
  Kept : p.world.classes ≡ world.classes → initialising p.stack ≡ initialising old → ClassChange v world old p
  Begun : (class : Name) → status_of world class ≡ NotInitialised → p.world.classes ≡ with_status_in class (InProgress v) world.classes
      → initialising p.stack ≡ class ∷ initialising old → ClassChange v world old p
  Left : (class : Name) (status : ClassStatus) → p.world.classes ≡ with_status_in class status world.classes
      → initialising old ≡ class ∷ initialising p.stack → ClassChange v world old p

pub record IsEffect (opened : ℕ) (writes : Variables → Bool) (v : ℕ) (world : World) (old : StackOf Value) (p : PartOf Value) : Type 0 where
  pub monitors : SparesMonitors v world.monitors p.world.monitors
  pub variables : KeepsVariables writes world.heap p.world.heap
  pub texts : KeepsTexts opened world.heap p.world.heap
  -- of classes that are begun
  pub statics : (field : Member) (first : Value) → writes (Statics field) ≡ false → (status_of world field.class ≡ NotInitialised → ⊥)
      → value_in first field p.world.statics ≡ value_in first field world.statics
  pub change : ClassChange v world old p

abbrev pub OnEffect : ℕ → (Variables → Bool) → ℕ → World → StackOf Value → SteppedOf (PartOf Value) → Type 0
OnEffect opened writes v world old NotEnabled = Unit {0}
OnEffect opened writes v world old WrongKind = Unit {0}
OnEffect opened writes v world old (Next cost p) = IsEffect opened writes v world old p

new_look : (v : ℕ) (s : ClassStatus) → look_by v s ≡ IsNew → s ≡ NotInitialised
new_look v NotInitialised e = refl
new_look v (InProgress by) e = absurd (not_new (by == v) e)
  where
    not_new : (b : Bool) → (if b then IsReady else IsHeld) ≡ IsNew → ⊥
    not_new true e = absurd cc
    not_new false e = absurd cc
new_look v Initialised e = absurd cc
new_look v Erroneous e = absurd cc

returned_same : (files : Program) (results : List Value) (stack : StackOf Value) → initialising (returned files results stack) ≡ initialising stack
returned_same files results [] = refl
returned_same files results (Invocation frame ∷ stack) = refl
returned_same files results (Initialisation class phase ∷ stack) = refl

-- ---- constants of a class

module _ (files : Program) where
  -- but for static fields and statuses
  record IsBeside (of : Name) (world after : World) (classes : List (Name × ClassStatus)) : Type 0 where
    classes_are : after.classes ≡ classes
    monitors : after.monitors ≡ world.monitors
    heap : after.heap ≡ world.heap
    statics : (field : Member) (first : Value) → name_eq of field.class ≡ false → value_in first field after.statics ≡ value_in first field world.statics

  constant_same : (class : Name) (pool : List Entry) (world : World) (field : FieldTree)
      → IsBeside class world (with_constant values files class pool world field) world.classes
  constant_same class pool world field = by (constant_value values files pool field)
    where
      by : (o : Option Value)
          → IsBeside class world (option_map_or (λ value. with_static world (field_member class pool field) (put_value values (field_member class pool field) value)) o world) world.classes
      by None = record { classes_are = refl; monitors = refl; heap = refl; statics = λ field first n. refl }
      by (Some value) =
          let m = field_member class pool field in
          record {
            classes_are = refl;
            monitors = refl;
            heap = refl;
            statics = λ other first n.
                value_other m other first (put_value values m value) (ap (λ b. b && (name_eq m.name other.name && name_eq m.descriptor other.descriptor)) n) world.statics;
          }

  constants_same : (class : Name) (pool : List Entry) (world : World) (fields : List FieldTree)
      → IsBeside class world (with_constants values files class pool world fields) world.classes
  constants_same class pool world [] = record { classes_are = refl; monitors = refl; heap = refl; statics = λ field first n. refl }
  constants_same class pool world (field ∷ fields) =
      let rest = constants_same class pool (with_constant values files class pool world field) fields in
      let one = constant_same class pool world field in
      record { classes_are = rest.classes_are ∙ one.classes_are; monitors = rest.monitors ∙ one.monitors; heap = rest.heap ∙ one.heap; statics = λ other first n. rest.statics other first n ∙ one.statics other first n }

  begun_same : (v : ℕ) (class : Name) (world : World)
      → IsBeside class world (with_class_begun values files v class world) (with_status_in class (InProgress v) world.classes)
  begun_same v class world = by (class_of files class)
    where
      by : (o : Option FileTree)
          → IsBeside class world (option_map_or (λ (file : FileTree). with_constants values files class file.pool (with_class_status world class (InProgress v)) file.fields) o (with_class_status world class (InProgress v)))
          (with_status_in class (InProgress v) world.classes)
      by None = record { classes_are = refl; monitors = refl; heap = refl; statics = λ field first n. refl }
      by (Some file) =
          let x = constants_same class file.pool (with_class_status world class (InProgress v)) file.fields in
          record { classes_are = x.classes_are; monitors = x.monitors; heap = x.heap; statics = x.statics }

module _ (opened : ℕ) (writes : Variables → Bool) (v : ℕ) (world : World) (old : StackOf Value) where
  abbrev Effect : SteppedOf (PartOf Value) → Type 0
  Effect = OnEffect opened writes v world old

  abbrev Same : StackOf Value → Type 0
  Same stack = initialising stack ≡ initialising old

  enabled_effect : (b : Bool) (x : SteppedOf (PartOf Value)) → Effect x → Effect (enabled_if b x)
  enabled_effect true x h = h
  enabled_effect false x h = tt

  either_effect : (b : Bool) (x y : SteppedOf (PartOf Value)) → Effect x → Effect y → Effect (if b then x else y)
  either_effect true x y h g = h
  either_effect false x y h g = g

  kept : (after : World) (stack : StackOf Value) → Spares opened writes v world after → Same stack → IsEffect opened writes v world old (part after stack)
  kept after stack s e = record { monitors = s.monitors; variables = s.variables; texts = s.texts; statics = λ field first n k. s.statics field first n; change = Kept s.classes e }

  -- ---- exceptions, calls and returns

  pending_spares : (after : World) (exception : ℕ) → Spares opened writes v world after → Spares opened writes v world (with_pending after v exception)
  pending_spares after exception s = threads_aside opened writes v world after (with_pending after v exception).threads s

  raised_effect : (files : Program) (fault : MachineException) (after : World) (stack : StackOf Value) → Spares opened writes v world after → Same stack
      → Effect (raised values files v fault after stack)
  raised_effect files fault after stack s e =
      let made = machine_exception values files fault None in
      kept (with_pending (allocated after made) v (length after.heap)) stack (pending_spares (allocated after made) (length after.heap) (with_object_made opened writes v world after made s)) e

  entering_effect : (after : World) (rest : StackOf Value) (frame : Frame) (o : Option ℕ) → Spares opened writes v world after → Same rest
      → Effect (entering v after rest frame o)
  entering_effect after rest frame None s e = kept after (Invocation frame ∷ rest) s e
  entering_effect after rest frame (Some object) s e =
      enabled_effect (may_enter after v object) (Next (entry_cost after object) (part (with_entry after v object) (Invocation frame ∷ rest)))
      (kept (with_entry after v object) (Invocation frame ∷ rest) (entry_spares opened writes v world after object s) e)

  pushed_effect : (files : Program) (frames : ℕ) (first after : World) (stack rest : StackOf Value) (frame : Frame) → Spares opened writes v world first
      → Spares opened writes v world after → Same stack → Same rest → Effect (pushed values files frames v first after stack rest frame)
  pushed_effect files frames first after stack rest frame s k e g =
      either_effect (nat_lt (frame_count stack) frames) (entering v after rest frame frame.entered) (raised values files v StackOverflow first stack)
      (entering_effect after rest frame frame.entered k g) (raised_effect files StackOverflow first stack s e)

  leaving_effect : (files : Program) (o : Option ℕ) (after : World) (rest stack : StackOf Value) → Spares opened writes v world after → Same rest → Same stack
      → Effect (leaving values files v o after rest stack)
  leaving_effect files None after rest stack s e g = kept after rest s e
  leaving_effect files (Some object) after rest stack s e g =
      either_effect (is_owner after v object) (on_to (with_exit after v object) rest) (raised values files v IllegalMonitorState after stack)
      (kept (with_exit after v object) rest (exit_spares opened writes v world after object s) e) (raised_effect files IllegalMonitorState after stack s g)

  interrupted_spares : (after : World) → Spares opened writes v world after → Spares opened writes v world (with_interrupted after v false)
  interrupted_spares after s = threads_aside opened writes v world after (with_interrupted after v false).threads s

  self : Spares opened writes v world world
  self = itself opened writes v world

  -- ---- classes that are needed

  begun_effect : (files : Program) (class : Name) (stack : StackOf Value) → status_of world class ≡ NotInitialised → Same stack
      → IsEffect opened writes v world old (part (with_class_begun values files v class world) (Initialisation class Super ∷ stack))
  begun_effect files class stack new e =
      let b = begun_same files v class world in
      record {
        monitors = subst (SparesMonitors v world.monitors) (sym b.monitors) self.monitors;
        variables = subst (KeepsVariables writes world.heap) (sym b.heap) self.variables;
        texts = subst (KeepsTexts opened world.heap) (sym b.heap) self.texts;
        statics = λ field first n k. b.statics field first (other field k);
        change = Begun class new b.classes_are (ap (λ l. class ∷ l) e);
      }
    where
      other : (field : Member) → (status_of world field.class ≡ NotInitialised → ⊥) → name_eq class field.class ≡ false
      other field k = by (name_eq class field.class) refl
        where
          by : (b : Bool) → name_eq class field.class ≡ b → name_eq class field.class ≡ false
          by true q = absurd (k (sym (ap (status_of world) (names_same class field.class q)) ∙ new))
          by false q = q

  needing_effect : (files : Program) (class : Name) (look : Look) (stack : StackOf Value) (x : SteppedOf (PartOf Value))
      → look_by v (status_of world class) ≡ look → Same stack → Effect x → Effect (needing values files v class look world stack x)
  needing_effect files class IsReady stack x q e h = h
  needing_effect files class IsNew stack x q e h = begun_effect files class stack (new_look v (status_of world class) q) e
  needing_effect files class IsHeld stack x q e h = tt
  needing_effect files class HasFailed stack x q e h = raised_effect files NoClassDefFound world stack self e

  needing_class_effect : (files : Program) (class : Option Name) (stack : StackOf Value) (x : SteppedOf (PartOf Value)) → Same stack
      → Effect x → Effect (needing_class values files v class world stack x)
  needing_class_effect files None stack x e h = h
  needing_class_effect files (Some class) stack x e h = needing_effect files class (look_by v (status_of world class)) stack x refl e h

module _ (opened : ℕ) (writes : Variables → Bool) (v : ℕ) (world : World) (files : Program) (frames : ℕ) where
  -- ---- an instruction

  become_effect : (frame : Frame) (stack : StackOf Value) (o : OutcomeOf Value) → OutcomeSpares opened writes v world o
      → OnEffect opened writes v world (Invocation frame ∷ stack) (become values files frames v world frame stack o)
  become_effect frame stack (Goes cost after slots to) s = kept opened writes v world (Invocation frame ∷ stack) after _ s refl
  become_effect frame stack (Raises fault) s = raised_effect opened writes v world (Invocation frame ∷ stack) files fault world (Invocation frame ∷ stack) (itself opened writes v world) refl
  become_effect frame stack (Throws exception) s =
      kept opened writes v world (Invocation frame ∷ stack) (with_pending world v exception) (Invocation frame ∷ stack)
      (pending_spares opened writes v world (Invocation frame ∷ stack) world exception (itself opened writes v world)) refl
  become_effect frame stack Interrupts s =
      raised_effect opened writes v world (Invocation frame ∷ stack) files InterruptedWait (with_interrupted world v false) (Invocation frame ∷ stack)
      (interrupted_spares opened writes v world (Invocation frame ∷ stack) world (itself opened writes v world)) refl
  become_effect frame stack (Calls callee rest) s =
      pushed_effect opened writes v world (Invocation frame ∷ stack) files frames world world (Invocation frame ∷ stack) (Invocation (at_call frame rest) ∷ stack) callee (itself opened writes v world) (itself opened writes v world) refl refl
  become_effect frame stack (Returns after results) s =
      leaving_effect opened writes v world (Invocation frame ∷ stack) files frame.entered after (returned files results stack) (Invocation frame ∷ stack) s (returned_same files results stack) refl
  become_effect frame stack (Waits cost after rest) s = kept opened writes v world (Invocation frame ∷ stack) after _ s refl

  module _ (event : Event) (is : event.thread ≡ v) (at : opening_count files ≡ opened) where
    meant : (o : Option Site) → Permits opened writes v (option_and_then (site_written files) o)
        → OfMeaning (DoesSpare opened writes v world event is) (option_and_then (meaning_of values files) o)
    meant None permits = tt
    meant (Some site) permits = meaning_spares opened writes v world event is files at site permits

    bytecode_effect : (frame : Frame) (stack : StackOf Value) (max_stack : ℕ) (o : Option (MeaningOf Value))
        → OfMeaning (DoesSpare opened writes v world event is) o
        → OnEffect opened writes v world (Invocation frame ∷ stack) (bytecode_by values files frames event world frame stack max_stack o)
    bytecode_effect frame stack max_stack None k = enabled_effect opened writes v world (Invocation frame ∷ stack) (event.pick == 0) WrongKind tt
    bytecode_effect frame stack max_stack (Some m) k =
        let slots = frame.place.slots in
        let whole : StackOf Value = Invocation frame ∷ stack in
        let does = m.does event world slots (ops_of values m slots) (under m.wants slots) in
        let become_by = subst (λ t. OnEffect opened writes v world whole (become values files frames t world frame stack does)) (sym is) (become_effect frame stack does (k slots (ops_of values m slots) (under m.wants slots))) in
        let needed = subst (λ t. OnEffect opened writes v world whole (needing_class values files t m.looks world whole (become values files frames event.thread world frame stack does))) (sym is)
        (needing_class_effect opened writes v world whole files m.looks whole (become values files frames event.thread world frame stack does) refl become_by) in
        either_effect opened writes v world whole (values.finds files (types_of world.heap) m.wants max_stack slots) _ (unpicked event WrongKind)
        (enabled_effect opened writes v world whole (m.may event world (ops_of values m slots)) _ needed)
        (enabled_effect opened writes v world whole (event.pick == 0) WrongKind tt)

    body_effect : (frame : Frame) (stack : StackOf Value) (o : Option Body) → Permits opened writes v (option_and_then (body_written files frame) o)
        → OnEffect opened writes v world (Invocation frame ∷ stack) (bytecode_in values files frames event world frame stack o)
    body_effect frame stack None permits = enabled_effect opened writes v world (Invocation frame ∷ stack) (event.pick == 0) WrongKind tt
    body_effect frame stack (Some body) permits =
        bytecode_effect frame stack body.code.max_stack (option_and_then (meaning_of values files) (site_at frame.method body frame.place.offset)) (meant (site_at frame.method body frame.place.offset) permits)

  -- ---- classes that are initialised, and threads that begin

  initialisation_effect : (class : Name) (phase : Phase) (stack : StackOf Value)
      → OnEffect opened writes v world (Initialisation class phase ∷ stack) (initialisation_event values files frames v class phase world stack)
  initialisation_effect class Super stack =
      let whole : StackOf Value = Initialisation class Super ∷ stack in
      needing_class_effect opened writes v world whole files (before files class) whole _ refl (by (body_of files (initialiser_of class)))
    where
      by : (o : Option Body)
          → OnEffect opened writes v world (Initialisation class Super ∷ stack) (initialiser_event values files frames v (initialiser_of class) world (Initialisation class End ∷ stack) o)
      by None = kept opened writes v world (Initialisation class Super ∷ stack) world (Initialisation class End ∷ stack) (itself opened writes v world) refl
      by (Some body) =
          let next : StackOf Value = Initialisation class End ∷ stack in
          pushed_effect opened writes v world (Initialisation class Super ∷ stack) files frames world world next next (frame_with values (initialiser_of class) [] None body) (itself opened writes v world) (itself opened writes v world) refl refl
  initialisation_effect class End stack =
      record { monitors = (itself opened writes v world).monitors; variables = (itself opened writes v world).variables; texts = (itself opened writes v world).texts; statics = λ field first n k. refl; change = Left class Initialised refl refl }

  begun_spares : Spares opened writes v world (with_begun world v)
  begun_spares = threads_aside opened writes v world world (with_begun world v).threads (itself opened writes v world)

  run_effect : (object : ℕ) (o : Option Member) → OnEffect opened writes v world [] (run_of values files frames v world object o)
  run_effect object None = raised_effect opened writes v world [] files AbstractMethod world [] (itself opened writes v world) refl
  run_effect object (Some m) = by (body_of files m)
    where
      by : (o : Option Body) → OnEffect opened writes v world [] (run_frame values files frames v world object m o)
      by None = raised_effect opened writes v world [] files AbstractMethod world [] (itself opened writes v world) refl
      by (Some body) =
          pushed_effect opened writes v world [] files frames world (with_begun world v) [] [] (frame_with values m (values.reference object ∷ []) (entered_by files m object) body) (itself opened writes v world) begun_spares refl refl

  -- ---- pending exceptions, and threads that were woken

  caught_spares : Spares opened writes v world (with_caught world v)
  caught_spares = threads_aside opened writes v world world (with_caught world v).threads (itself opened writes v world)

  unwound_effect : (exception : ℕ) (frame : Frame) (stack : StackOf Value) (o : Option ExceptionEntry)
      → OnEffect opened writes v world (Invocation frame ∷ stack) (unwound values files v exception world frame stack o)
  unwound_effect exception frame stack None =
      leaving_effect opened writes v world (Invocation frame ∷ stack) files frame.entered world stack stack (itself opened writes v world) refl refl
  unwound_effect exception frame stack (Some entry) = kept opened writes v world (Invocation frame ∷ stack) (with_caught world v) _ caught_spares refl

  failed_effect : (exception : ℕ) (b : Bool) (class : Name) (phase : Phase) (stack : StackOf Value)
      → OnEffect opened writes v world (Initialisation class phase ∷ stack) (failed values files v exception b (with_class_status world class Erroneous) stack)
  failed_effect exception true class phase stack = record { monitors = (itself opened writes v world).monitors; variables = (itself opened writes v world).variables; texts = (itself opened writes v world).texts; statics = λ field first n k. refl; change = Left class Erroneous refl refl }
  failed_effect exception false class phase stack =
      let after = with_class_status world class Erroneous in
      let made = machine_exception values files ExceptionInInitializer (Some exception) in
      record {
        monitors = (with_object_made opened writes v after after made (itself opened writes v after)).monitors;
        variables = (with_object_made opened writes v after after made (itself opened writes v after)).variables;
        texts = (with_object_made opened writes v after after made (itself opened writes v after)).texts;
        statics = λ field first n k. refl;
        change = Left class Erroneous refl refl;
      }

  pending_effect : (exception : ℕ) (thrown : Option ReferenceType) (stack : StackOf Value)
      → OnEffect opened writes v world stack (pending_event values files v exception thrown world stack)
  pending_effect exception thrown [] = tt
  pending_effect exception thrown (Invocation frame ∷ stack) =
      unwound_effect exception frame stack (option_and_then (handler_in files frame.place.offset thrown) (body_of files frame.method))
  pending_effect exception thrown (Initialisation class phase ∷ stack) =
      failed_effect exception (is_object_of files (ClassType java_lang_error) thrown) class phase stack

  after_wait_effect : (old : StackOf Value) (after : World) (cause : WakeCause) → Spares opened writes v world after
      → OnEffect opened writes v world old (after_wait values files v cause after old)
  after_wait_effect old after Notified s = kept opened writes v world old after (returned files [] old) s (returned_same files [] old)
  after_wait_effect old after Interrupted s =
      raised_effect opened writes v world old files InterruptedWait (with_interrupted after v false) old (interrupted_spares opened writes v world old after s) refl

  relock_effect : (object count : ℕ) (cause : WakeCause) (stack : StackOf Value)
      → OnEffect opened writes v world stack (relock_event values files v object count cause world stack)
  relock_effect object count cause stack =
      let locked = with_monitors world (monitors.relock object v count world.monitors) in
      let s = relock_spares opened writes v world world object count (itself opened writes v world) in
      enabled_effect opened writes v world stack (is_done (monitors.relock object v count world.monitors).answer) (after_wait values files v cause (with_status locked v Running) stack)
      (after_wait_effect stack (with_status locked v Running) cause (threads_aside opened writes v world locked (with_status locked v Running).threads s))

module _ (writes : Variables → Bool) (files : Program) (frames : ℕ) where
  abbrev opened : ℕ
  opened = opening_count files

  main_effect : (world : World) (main : Member) (o : Option Body) → OnEffect opened writes 0 world [] (main_frame values files frames world main o)
  main_effect world main None = tt
  main_effect world main (Some body) =
      pushed_effect opened writes 0 world [] files frames world (with_begun world 0) [] [] (frame_with values main (values.reference arguments_reference ∷ []) (entered_by files main (class_reference files main.class)) body)
      (itself opened writes 0 world) (begun_spares opened writes 0 world files frames) refl refl

  begin_effect : (world : World) (v : ℕ) → OnEffect opened writes v world [] (begin_event values files frames world v)
  begin_effect world zero =
      let main = main_of (initial_class files) in
      needing_class_effect opened writes 0 world [] files (Some (initial_class files)) [] (main_frame values files frames world main (body_of files main)) refl (main_effect world main (body_of files main))
  begin_effect world (suc t) =
      let object = (thread_at world (suc t)).object in
      run_effect opened writes (suc t) world files frames object (select files (class_of_object (object_at world object)) thread_run)

  module _ (event : Event) (world : World) where
    abbrev v : ℕ
    v = event.thread

    running_effect : (stack : StackOf Value) → Permits opened writes v (stack_written files stack) → OnEffect opened writes v world stack (running_event values files frames event world stack)
    running_effect [] permits = enabled_effect opened writes v world [] (event.pick == 0) (begin_event values files frames world v) (begin_effect world v)
    running_effect (Invocation frame ∷ stack) permits = body_effect opened writes v world files frames event refl refl frame stack (body_of files frame.method) permits
    running_effect (Initialisation class phase ∷ stack) permits =
        enabled_effect opened writes v world (Initialisation class phase ∷ stack) (event.pick == 0) (initialisation_event values files frames v class phase world stack) (initialisation_effect opened writes v world files frames class phase stack)

    going_effect : (stack : StackOf Value) (pending : Option ℕ) → (is_going Running pending ≡ true → Permits opened writes v (stack_written files stack))
        → OnEffect opened writes v world stack (going_event values files frames event world stack pending)
    going_effect stack None permits = running_effect stack (permits refl)
    going_effect stack (Some exception) permits =
        let thrown = slice_get (types_of world.heap) exception in
        enabled_effect opened writes v world stack (event.pick == 0) (pending_event values files v exception thrown world stack) (pending_effect opened writes v world files frames exception thrown stack)

    -- what an event of a thread does, before its end
    pub event_effect : (stack : StackOf Value) (status : ThreadStatus)
        → (is_going status (thread_at world v).pending ≡ true → Permits opened writes v (stack_written files stack))
        → OnEffect opened writes v world stack (thread_event values files frames event world stack status)
    event_effect stack Running permits = going_effect stack (thread_at world v).pending permits
    event_effect stack (Waiting object count) permits = tt
    event_effect stack (Relock object count cause) permits =
        enabled_effect opened writes v world stack (event.pick == 0) (relock_event values files v object count cause world stack) (relock_effect opened writes v world files frames object count cause stack)
    event_effect stack (Ended exception) permits = tt

-- the end of a thread leaves classes as they are
pub end_spares : (opened : ℕ) (writes : Variables → Bool) (v : ℕ) (world : World) (stack : StackOf Value) → Spares opened writes v world (end_of v world stack)
end_spares opened writes v world [] = by (is_over (thread_at world v))
  where
    by : (b : Bool) → Spares opened writes v world (with_end world v b)
    by true =
        let gone = with_thread world v (ended (thread_at world v)) in
        all_leave opened writes v world gone (thread_at world v).object (threads_aside opened writes v world world gone.threads (itself opened writes v world))
    by false = itself opened writes v world
end_spares opened writes v world (entry ∷ stack) = itself opened writes v world
