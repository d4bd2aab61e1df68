-- A thread that begins: main's with main of the initial class, another one with run of its Thread object.
use Rattle.std.proofs.Common.{◌≡◌, ℕ, zero, suc, [], ◌∷◌, true, false, Option, Some, None, refl, sym, ap, ◌∙◌, subst}
use Rattle.std.specs.Prelude.{slice_get}
use Rattle.std.specs.Option.{option_map_or}
use Rattle.std.proofs.lemmas.Bool.{false≢true}
use Rattle.std.proofs.lemmas.Option.{get_or_from_slice_get}
use Rattle.model.specs.declared.value.Value.{Value}
use Rattle.model.specs.declared.value.Value.TheVariants as value
use Rattle.model.specs.Names.{Name, Member, main_of, thread_run, java_lang_string, java_lang_thread}
use Rattle.model.specs.AccessFlags.{is_static_method}
use Rattle.model.specs.Classes.{Program, Body, body_of, is_subclass}
use Rattle.model.specs.Lookup.{method_of, in_class, select, is_selectable}
use Rattle.model.specs.ReferenceTypes.{ClassType, ReferenceArray, is_assignable}
use Rattle.model.specs.Types.{is_object_below, is_value_below}
use Rattle.model.specs.Operands.{values}
use Rattle.model.specs.State.{ObjectOf, Instance, Primitives, References, type_of, types_of, Running, Thread, World, Characters}
use Rattle.model.specs.Opening.{arguments_reference, class_reference}
use Rattle.model.specs.Outcomes.{AbstractMethod}
use Rattle.model.specs.Worlds.{no_thread, no_object, thread_at, with_begun, object_at, class_of_object}
use Rattle.model.specs.Frames.{frame_with, entered_by}
use Rattle.model.specs.Step.{initial_class, main_frame, main_event, run_frame, run_of, begin_event}
use Rattle.model.specs.Typing.{AreTyped}
use Rattle.model.specs.WellTyped.{is_object_in}
use Rattle.run_laws.proofs.laws.Lists.{get_map}
use Rattle.run_laws.proofs.typed_runs.Objects.{object_found}
use Rattle.run_laws.proofs.typed_runs.Changes.{Fits}
use Rattle.run_laws.proofs.laws.Linked.{Linked}
use Rattle.run_laws.proofs.typed_runs.OpeningObjects.{arguments_there}
use Rattle.run_laws.proofs.typed_runs.NewFrames.{opened_ready, selected, run_arguments, main_arguments}
use Rattle.run_laws.proofs.typed_runs.StepParts.{At, OnPart, own_at, raised_typed, idle_running}
use Rattle.run_laws.proofs.typed_runs.Entering.{BegunKeeps, pushed_typed, needing_class_typed}

module _ (files : Program) (linked : Linked files) (accepted : AreTyped files) (frames : ℕ) (world : World) (fits : Fits files world) where
  -- main of the initial class, with the array of arguments
  main_frame_typed : (thread : Thread) (there : slice_get world.threads 0 ≡ Some thread) → At files 0 world world thread
      → thread.status ≡ Running → thread.pending ≡ None → (o : Option Body) → body_of files (main_of (initial_class files)) ≡ o
      → OnPart files 0 world (main_frame values files frames world (main_of (initial_class files)) o)
  main_frame_typed thread there start runs none None e = tt
  main_frame_typed thread there start runs none (Some body) e =
      let main = main_of (initial_class files) in
      let is = get_or_from_slice_get world.threads 0 thread no_thread there in
      let new = record (thread_at world 0) { begun = true } in
      let status = ap (λ (th : Thread). th.status) is ∙ runs in
      let pending = ap (λ (th : Thread). th.pending) is ∙ none in
      let static = ap (λ o. option_map_or is_static_method o false) linked.main.is_method ∙ linked.main.is_static in
      let arguments = fits.opened.keeps arguments_reference (ReferenceArray (ClassType java_lang_string)) (arguments_there files) in
      pushed_typed files linked.rooted 0 world thread there frames world (with_begun world 0) thread new [] []
      (frame_with values main (value.Reference arguments_reference ∷ []) (entered_by files main (class_reference files main.class)) body) start runs
      (own_at files 0 world thread there world thread new start refl (idle_running new status)) status pending tt
      (opened_ready files linked.rooted (types_of world.heap) main body (value.Reference arguments_reference ∷ []) (entered_by files main (class_reference files main.class)) e (accepted main body e) (main_arguments files (types_of world.heap) (initial_class files) arguments_reference static arguments), tt)

  module _ (begun_keeps : BegunKeeps files) where
    main_typed : (thread : Thread) (there : slice_get world.threads 0 ≡ Some thread) → At files 0 world world thread
        → thread.status ≡ Running → thread.pending ≡ None → OnPart files 0 world (main_event values files frames world)
    main_typed thread there start runs none =
        needing_class_typed files linked.rooted 0 world thread there begun_keeps (Some (initial_class files)) world thread [] _ start runs none tt
        (main_frame_typed thread there start runs none (body_of files (main_of (initial_class files))) refl)

    -- run of a Thread object
    module _ (t : ℕ) (thread : Thread) (there : slice_get world.threads t ≡ Some thread) (start : At files t world world thread) (runs : thread.status ≡ Running) (none : thread.pending ≡ None) where
      run_frame_typed : (object : ℕ) (class : Name)
          → option_map_or is_selectable (method_of files (in_class class thread_run)) false ≡ true
          → is_value_below files (types_of world.heap) (ClassType class) (value.Reference object) ≡ true → (o : Option Body)
          → body_of files (in_class class thread_run) ≡ o
          → OnPart files t world (run_frame values files frames t world object (in_class class thread_run) o)
      run_frame_typed object class selectable below None e =
          raised_typed files t world thread there linked.rooted AbstractMethod world thread [] start runs tt
      run_frame_typed object class selectable below (Some body) e =
          let method = in_class class thread_run in
          let is = get_or_from_slice_get world.threads t thread no_thread there in
          let new = record (thread_at world t) { begun = true } in
          let status = ap (λ (th : Thread). th.status) is ∙ runs in
          let pending = ap (λ (th : Thread). th.pending) is ∙ none in
          pushed_typed files linked.rooted t world thread there frames world (with_begun world t) thread new [] []
          (frame_with values method (value.Reference object ∷ []) (entered_by files method object) body) start runs
          (own_at files t world thread there world thread new start refl (idle_running new status)) status pending tt
          (opened_ready files linked.rooted (types_of world.heap) method body (value.Reference object ∷ []) (entered_by files method object) e (accepted method body e) (run_arguments files (types_of world.heap) class (value.Reference object) selectable below), tt)

      -- the class of a Thread object, and each class above it
      below_thread : (object : ℕ) (class : Name) (o : ObjectOf Value) → slice_get world.heap object ≡ Some o
          → is_assignable files (type_of o) (ClassType java_lang_thread) ≡ true → is_subclass files (class_of_object o) class ≡ true
          → is_value_below files (types_of world.heap) (ClassType class) (value.Reference object) ≡ true
      below_thread object class (Instance c fields) e h above =
          subst (λ o. is_object_below files (ClassType class) o ≡ true) (sym (get_map type_of world.heap object (Instance c fields) e)) above
      below_thread object class (Primitives of elements) e h above = absurd (false≢true h)
      below_thread object class (References of elements) e h above = absurd (false≢true h)
      below_thread object class (Characters text) e h above =
          subst (λ o. is_object_below files (ClassType class) o ≡ true) (sym (get_map type_of world.heap object (Characters text) e)) above

      run_of_typed : (object : ℕ) → is_object_in files (types_of world.heap) java_lang_thread object ≡ true → (o : Option Member)
          → select files (class_of_object (object_at world object)) thread_run ≡ o
          → OnPart files t world (run_of values files frames t world object o)
      run_of_typed object typed None e = raised_typed files t world thread there linked.rooted AbstractMethod world thread [] start runs tt
      run_of_typed object typed (Some method) e =
          let found = selected files (class_of_object (object_at world object)) thread_run method e in
          let o = object_found files world.heap object (ClassType java_lang_thread) typed in
          let is = get_or_from_slice_get world.heap object o.0 no_object o.1 in
          let above = subst (λ (x : ObjectOf Value). is_subclass files (class_of_object x) method.class ≡ true) is found.above in
          let below = below_thread object method.class o.0 o.1 o.2 above in
          let selectable = subst (λ m. option_map_or is_selectable (method_of files m) false ≡ true) found.is found.selectable in
          subst (λ m. OnPart files t world (run_frame values files frames t world object m (body_of files m))) (sym found.is)
          (run_frame_typed object method.class selectable below (body_of files (in_class method.class thread_run)) refl)

    pub begin_typed : (t : ℕ) (thread : Thread) (there : slice_get world.threads t ≡ Some thread) → At files t world world thread
        → thread.status ≡ Running → thread.pending ≡ None → is_object_in files (types_of world.heap) java_lang_thread thread.object ≡ true
        → OnPart files t world (begin_event values files frames world t)
    begin_typed zero thread there start runs none typed = main_typed thread there start runs none
    begin_typed (suc t) thread there start runs none typed =
        let object = (thread_at world (suc t)).object in
        let is = ap (λ (th : Thread). th.object) (get_or_from_slice_get world.threads (suc t) thread no_thread there) in
        run_of_typed (suc t) thread there start runs none object (subst (λ r. is_object_in files (types_of world.heap) java_lang_thread r ≡ true) (sym is) typed) (select files (class_of_object (object_at world object)) thread_run) refl
