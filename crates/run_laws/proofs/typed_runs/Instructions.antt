-- Instructions on fields, local instructions, athrow, returns, monitors and println: each brings about what its typing says.
use Rattle.std.proofs.Common.{◌≡◌, ℕ, List, [], ◌∷◌, map, Bool, true, false, ◌||◌, Some, refl, sym, ap, ◌∙◌, subst}
use Rattle.std.specs.Prelude.{slice_get, slice_index_or, if◌then◌else◌}
use Rattle.std.specs.List.{AllByRecursion, list_all}
use Rattle.std.proofs.lemmas.Bool.{and_from}
use Rattle.std.proofs.lemmas.Option.{get_or_from_slice_get}
use Rattle.model.specs.declared.event.Event.{Event}
use Rattle.model.specs.declared.value.Value.{Value}
use Rattle.model.specs.Names.{Name, Member, name_eq, java_lang_throwable, java_io_print_stream}
use Rattle.model.specs.Classes.{Program}
use Rattle.model.specs.ReferenceTypes.{ReferenceType, ClassType}
use Rattle.model.specs.Types.{VerificationType, AnOwner, value_meets, is_value_below}
use Rattle.model.specs.DescribedTypes.{DeclaredType, DeclaredInt, DeclaredReference, field_declared, made_type, declared_want, verification_type}
use Rattle.model.specs.Operands.{Slots, values, over_types, over_values, operands, under}
use Rattle.model.specs.Rows.{Row, row_wants, row_target, after_row}
use Rattle.model.specs.State.{ObjectOf, Instance, Primitives, References, type_of, types_of, Frame, World, Characters}
use Rattle.model.specs.Opening.{first_of}
use Rattle.model.specs.Outcomes.{Goes, Raises, Throws, Free, Arithmetic}
use Rattle.model.specs.Worlds.{object_at, no_object, value_in, fields_of, with_field, with_object, with_static, put_value, is_owner, with_entry, with_exit, entry_cost}
use Rattle.model.specs.Sites.{MeaningOf, Site, pushing, pushing_at, operand, int_operand}
use Rattle.model.specs.Step.{ops_of}
use Rattle.model.specs.Typing.{Reaches, constructs_this, marked}
use Rattle.model.specs.TypeOrder.{FrameType}
use Rattle.model.specs.Objects.{any_object}
use Rattle.model.specs.Texts.{int_line}
use Rattle.model.specs.BuiltInMethods.{with_printed}
use Rattle.model.specs.Calls.{of_class}
use Rattle.model.specs.Meanings.{local_meaning, get_static_of, put_static_of, get_field_of, put_field_of, println_meaning}
use Rattle.model.specs.MonitorMeanings.{monitor_enter_meaning, monitor_exit_meaning, left}
use Rattle.model.specs.ThrowMeaning.{throw_meaning}
use Rattle.model.specs.WellTyped.{has_type, is_field_typed, is_object_typed}
use Rattle.run_laws.proofs.laws.Lists.{every_get, every_unmap}
use Rattle.run_laws.proofs.laws.Rows.{of_slots, after_row_both}
use Rattle.run_laws.proofs.typed_runs.Objects.{value_in_typed, with_value_typed, put_value_typed, all_index}
use Rattle.run_laws.proofs.typed_runs.Frames.{arrive}
use Rattle.run_laws.proofs.typed_runs.Changes.{OutcomeTyped}
use Rattle.run_laws.proofs.typed_runs.WorldChanges.{Keeps, self_keeps, object_keeps, static_keeps, printed_keeps, entry_keeps, exit_keeps, goes_on}
use Rattle.run_laws.proofs.typed_runs.Going.{Here, Allows, slots_here, not_null_typed, met, pushes}

-- what an instruction of this meaning brings about
abbrev pub Does : Program → Event → World → Frame → MeaningOf Value → Type 0
Does files event w f m = OutcomeTyped files event.thread w f (m.does event w f.place.slots (ops_of values m f.place.slots) (under m.wants f.place.slots))

-- what is wanted as a declared type is of it
pub declared_met : (files : Program) (os : List ReferenceType) (d : DeclaredType) (v : Value)
    → value_meets files os (declared_want files d) v ≡ true → has_type files os (verification_type files d) v ≡ true
declared_met files os DeclaredInt v h = h
declared_met files os (DeclaredReference type) v h = h

pub fields_typed : (files : Program) (os : List ReferenceType) (o : ObjectOf Value) → is_object_typed files os o ≡ true
    → list_all (is_field_typed files os) (fields_of o) ≡ true
fields_typed files os (Instance class fields) h = h
fields_typed files os (Primitives of elements) h = refl
fields_typed files os (References of elements) h = refl
fields_typed files os (Characters text) h = refl

pub with_field_typed : (files : Program) (os : List ReferenceType) (field : Member) (v : Value) (o : ObjectOf Value)
    → is_field_typed files os (field, v) ≡ true → is_object_typed files os o ≡ true → is_object_typed files os (with_field field v o) ≡ true
with_field_typed files os field v (Instance class fields) q h = with_value_typed files os field v fields q h
with_field_typed files os field v (Primitives of elements) q h = h
with_field_typed files os field v (References of elements) q h = h
with_field_typed files os field v (Characters text) q h = h

pub with_field_same : (field : Member) (v : Value) (o : ObjectOf Value) → type_of (with_field field v o) ≡ type_of o
with_field_same field v (Instance class fields) = refl
with_field_same field v (Primitives of elements) = refl
with_field_same field v (References of elements) = refl
with_field_same field v (Characters text) = refl

-- the object of a reference is as its type says
pub at_typed : (files : Program) (os : List ReferenceType) (heap : List (ObjectOf Value)) (r : ℕ)
    → list_all (is_object_typed files os) heap ≡ true → is_object_typed files os (slice_index_or heap r no_object) ≡ true
at_typed files os heap r h = all_index (is_object_typed files os) heap r no_object h refl

pub at_there : (heap : List (ObjectOf Value)) (r : ℕ) (o : ObjectOf Value) → slice_get heap r ≡ Some o
    → slice_get heap r ≡ Some (slice_index_or heap r no_object)
at_there heap r o e = e ∙ ap (λ x. Some x) (sym (get_or_from_slice_get heap r o no_object e))

owned_below : (files : Program) (os : List ReferenceType) (b : Bool) (named : Name) (v : Value)
    → value_meets files os (if b then AnOwner named else of_class files named) v ≡ true
    → (type : ReferenceType) × (is_value_below files os type v ≡ true)
owned_below files os true named v h = (ClassType named, h)
owned_below files os false named v h = (made_type files (ClassType named), h)

module _ (files : Program) (event : Event) (w : World) (f : Frame) (site : Site) (h : Here files event.thread w f site) where
  same : Keeps files w w
  same = self_keeps files w h.fits

  -- ---- local instructions

  row_on : (row : Row) (constructed : Bool) (b : Bool)
      → AllByRecursion (λ (to : ℕ). Reaches files h.ready.stopped.stands.typing
      to (record { slots = after_row over_types row h.ready.stopped.stands.type.slots; constructed = constructed })) (row.to ∷ row.others)
      → OutcomeTyped files event.thread w f (if b then Raises Arithmetic else Goes Free
      w (after_row over_values row f.place.slots) (row_target row (values.words (operands over_values (row_wants row) f.place.slots))))
  row_on row constructed true on = tt
  row_on row constructed false on =
      let to = row_target row (values.words (operands over_values (row_wants row) f.place.slots)) in
      let ts = h.ready.stopped.stands.type.slots in
      goes_on files event.thread w w f Free (after_row over_values row f.place.slots) to h.live same
      (arrive files h.linked.rooted (types_of w.heap) f h.ready.stopped.stands to (record { slots = after_row over_types row ts; constructed = constructed }) (after_row over_values row f.place.slots)
      (every_get _ row.to row.others (row.choose (values.words (operands over_values (row_wants row) f.place.slots))) on)
      (of_slots files (types_of w.heap) _ _ (after_row_both files h.linked.rooted (types_of w.heap) row ts f.place.slots (slots_here files event.thread w f site h))))

  pub row_typed : (row : Row) → Allows files f h.ready.stopped.stands site (local_meaning values row)
      → Does files event w f (local_meaning values row)
  row_typed row a =
      let mark = h.ready.stopped.stands.type.constructed || constructs_this site (operands over_types (row_wants row) h.ready.stopped.stands.type.slots) site.instr in
      let after = after_row over_types row h.ready.stopped.stands.type.slots in
      row_on row mark (row.fails (values.words (operands over_values (row_wants row) f.place.slots)))
      (every_unmap (λ (lead : ℕ × Slots VerificationType). Reaches files h.ready.stopped.stands.typing lead.0 (record { slots = lead.1; constructed = mark })) (λ to. (to, after)) (row.to ∷ row.others)
      (every_unmap (λ (lead : ℕ × FrameType). Reaches files h.ready.stopped.stands.typing lead.0 lead.1) (marked mark) (map (λ to. (to, after)) (row.to ∷ row.others)) a.leads))

  -- ---- static fields

  pub get_static_typed : (field : Member) → Allows files f h.ready.stopped.stands site (get_static_of values files site.next field)
      → Does files event w f (get_static_of values files site.next field)
  get_static_typed field a =
      pushes files event.thread w f site h _ a (verification_type files (field_declared field.descriptor) ∷ []) _ a.leads.0 Free w (value_in (first_of values field) field w.statics ∷ []) same
      (and_from _ _ (value_in_typed files (types_of w.heap) field w.statics h.fits.statics) refl)

  pub put_static_typed : (field : Member) → Allows files f h.ready.stopped.stands site (put_static_of values files site.next field)
      → Does files event w f (put_static_of values files site.next field)
  put_static_typed field a =
      let v = operand values (ops_of values (put_static_of values files site.next field) f.place.slots) 0 in
      pushes files event.thread w f site h _ a [] _ a.leads.0 Free (with_static w field (put_value values field v)) []
      (static_keeps files w h.fits field (put_value values field v)
      (put_value_typed files (types_of w.heap) field v (declared_met files (types_of w.heap) (field_declared field.descriptor) v (met files event.thread w f site h _ a 0))))
      refl

  -- ---- fields of objects

  pub get_field_typed : (named : Name) (field : Member)
      → Allows files f h.ready.stopped.stands site (get_field_of values files site.next named field)
      → Does files event w f (get_field_of values files site.next named field)
  get_field_typed named field a =
      not_null_typed files event.thread w f site h (made_type files (ClassType named)) (operand values (ops_of values (get_field_of values files site.next named field) f.place.slots) 0)
      (λ r. pushing site.next (value_in (first_of values field) field (fields_of (object_at w r)) ∷ []) w f.place.slots (under (get_field_of values files site.next named field).wants f.place.slots))
      (met files event.thread w f site h _ a 0)
      (λ r o q e b.
      pushes files event.thread w f site h _ a (verification_type files (field_declared field.descriptor) ∷ []) _ a.leads.0 Free w (value_in (first_of values field) field (fields_of (object_at w r)) ∷ []) same
      (and_from _ _ (value_in_typed files (types_of w.heap) field (fields_of (object_at w r)) (fields_typed files (types_of w.heap) (object_at w r) (at_typed files (types_of w.heap) w.heap r h.fits.heap))) refl))

  pub put_field_typed : (named : Name) (field : Member)
      → Allows files f h.ready.stopped.stands site (put_field_of values files site.next named field)
      → Does files event w f (put_field_of values files site.next named field)
  put_field_typed named field a =
      let os = types_of w.heap in
      let ops = ops_of values (put_field_of values files site.next named field) f.place.slots in
      let v = operand values ops 0 in
      let owner = owned_below files os (name_eq named field.class) named (operand values ops 1) (met files event.thread w f site h _ a 1) in
      not_null_typed files event.thread w f site h owner.0 (operand values ops 1)
      (λ r. pushing site.next [] (with_object w r (with_field field (put_value values field v) (object_at w r))) f.place.slots (under (put_field_of values files site.next named field).wants f.place.slots))
      owner.1
      (λ r o q e b.
      pushes files event.thread w f site h _ a [] _ a.leads.0 Free (with_object w r (with_field field (put_value values field v) (object_at w r))) []
      (object_keeps files w h.fits r (object_at w r) (with_field field (put_value values field v) (object_at w r)) (at_there w.heap r o e) (with_field_same field (put_value values field v) (object_at w r))
      (with_field_typed files os field (put_value values field v) (object_at w r) (put_value_typed files os field v (declared_met files os (field_declared field.descriptor) v (met files event.thread w f site h _ a 0))) (at_typed files os w.heap r h.fits.heap)))
      refl)

  -- ---- println, athrow, monitors

  pub println_typed : Allows files f h.ready.stopped.stands site (println_meaning values site.next)
      → Does files event w f (println_meaning values site.next)
  println_typed a =
      let text = int_line (int_operand values (ops_of values (println_meaning values site.next) f.place.slots) 0) in
      not_null_typed files event.thread w f site h (ClassType java_io_print_stream) (operand values (ops_of values (println_meaning values site.next) f.place.slots) 1)
      (λ r. pushing site.next [] (with_printed w text) f.place.slots (under (println_meaning values site.next).wants f.place.slots))
      (met files event.thread w f site h _ a 1)
      (λ r o q e b. pushes files event.thread w f site h _ a [] _ a.leads.0 Free (with_printed w text) [] (printed_keeps files w h.fits text) refl)

  pub throw_typed : Allows files f h.ready.stopped.stands site (throw_meaning values) → Does files event w f (throw_meaning values)
  throw_typed a =
      let v = operand values (ops_of values (throw_meaning values) f.place.slots) 0 in
      let m = met files event.thread w f site h _ a 0 in
      not_null_typed files event.thread w f site h (ClassType java_lang_throwable) v (λ r. Throws r) m (λ r o q e b. subst (λ x. is_value_below files (types_of w.heap) (ClassType java_lang_throwable) x ≡ true) q m)

  pub monitor_enter_typed : Allows files f h.ready.stopped.stands site (monitor_enter_meaning values site)
      → Does files event w f (monitor_enter_meaning values site)
  monitor_enter_typed a =
      not_null_typed files event.thread w f site h any_object (operand values (ops_of values (monitor_enter_meaning values site) f.place.slots) 0)
      (λ r. pushing_at (entry_cost w r) site.next [] (with_entry w event.thread r) f.place.slots (under (monitor_enter_meaning values site).wants f.place.slots))
      (met files event.thread w f site h _ a 0)
      (λ r o q e b. pushes files event.thread w f site h _ a [] _ a.leads.0 (entry_cost w r) (with_entry w event.thread r) [] (entry_keeps files w h.fits event.thread r) refl)

  left_typed : (a : Allows files f h.ready.stopped.stands site (monitor_exit_meaning values site)) (r : ℕ) (b : Bool)
      → OutcomeTyped files event.thread w f (left b site.next event.thread r w
      f.place.slots (under (monitor_exit_meaning values site).wants f.place.slots))
  left_typed a r true = pushes files event.thread w f site h _ a [] _ a.leads.0 Free (with_exit w event.thread r) [] (exit_keeps files w h.fits event.thread r) refl
  left_typed a r false = tt

  pub monitor_exit_typed : Allows files f h.ready.stopped.stands site (monitor_exit_meaning values site)
      → Does files event w f (monitor_exit_meaning values site)
  monitor_exit_typed a =
      not_null_typed files event.thread w f site h any_object (operand values (ops_of values (monitor_exit_meaning values site) f.place.slots) 0)
      (λ r. left (is_owner w event.thread r) site.next event.thread r w f.place.slots (under (monitor_exit_meaning values site).wants f.place.slots))
      (met files event.thread w f site h _ a 0)
      (λ r o q e b. left_typed a r (is_owner w event.thread r))
