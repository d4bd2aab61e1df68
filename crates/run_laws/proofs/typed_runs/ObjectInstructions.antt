-- Instructions on classes and their objects, and returns: each brings about what its typing says.
use Rattle.std.proofs.Common.{◌≡◌, ℕ, List, [], ◌∷◌, ◌++◌, length, map, Bool, true, false, Option, Some, None, refl, sym, subst}
use Rattle.std.specs.Prelude.{slice_get, slice_index_or}
use Rattle.std.specs.Option.{option_map_or}
use Rattle.std.specs.List.{list_any}
use Rattle.std.proofs.lemmas.Bool.{false≢true, and_parts, and_from}
use Rattle.model.specs.declared.event.Event.{Event}
use Rattle.model.specs.declared.value.Value.{Value}
use Rattle.model.specs.declared.value.Value.TheVariants as value
use Rattle.model.specs.Names.{Name, name_eq, Member, java_lang_class, java_lang_string, java_io_print_stream}
use Rattle.model.specs.Tree.{FileTree}
use Rattle.model.specs.StringConstants.{string_texts}
use Rattle.model.specs.Classes.{Program, classes_of, is_named, class_of}
use Rattle.model.specs.ReferenceTypes.{ReferenceType, ClassType}
use Rattle.model.specs.Types.{IntType, OfType, Uninitialised, AnyWord, is_int_value, value_meets, is_object_below, is_value_of, is_value_below}
use Rattle.model.specs.DescriptorScan.{method_type}
use Rattle.model.specs.Descriptors.{FieldType, MethodType}
use Rattle.model.specs.DescribedTypes.{DeclaredType, DeclaredInt, DeclaredReference, results_declared, returned_type, declared_want, made_type, verification_type}
use Rattle.model.specs.InitialisedTypes.{forgotten}
use Rattle.model.specs.Operands.{values, under}
use Rattle.model.specs.State.{types_of, Frame, World}
use Rattle.model.specs.Opening.{new_instance, opening_heap, class_reference, string_reference}
use Rattle.model.specs.Outcomes.{Makes, Free}
use Rattle.model.specs.Worlds.{allocated, cells_of}
use Rattle.model.specs.Sites.{Site, operand}
use Rattle.model.specs.Step.{ops_of}
use Rattle.model.specs.Calls.{result_types, returned_by, is_nothing, is_int_returned, is_reference_returned, return_meaning, int_return_meaning, reference_return_meaning}
use Rattle.model.specs.Objects.{new_meaning, check_cast_meaning, cast, instance_of_meaning, object_meaning}
use Rattle.model.specs.Meanings.{stream_of, system_stream_meaning}
use Rattle.model.specs.WellTyped.{has_type, is_object_in, are_typed}
use Rattle.run_laws.proofs.laws.Lists.{of_pairs, pairs_of, pair_map_left}
use Rattle.run_laws.proofs.laws.Order.{assignable_self, forgotten_typed}
use Rattle.run_laws.proofs.typed_runs.Objects.{added_below, new_instance_typed, new_instance_type}
use Rattle.run_laws.proofs.laws.Found.{found_any, found_passes}
use Rattle.run_laws.proofs.typed_runs.OpeningObjects.{stream_there, class_there, string_there}
use Rattle.run_laws.proofs.typed_runs.Changes.{OutcomeTyped}
use Rattle.run_laws.proofs.typed_runs.WorldChanges.{Keeps, self_keeps, allocated_keeps, gives_back}
use Rattle.run_laws.proofs.typed_runs.Subtypes.{instance_below}
use Rattle.run_laws.proofs.typed_runs.Going.{Here, Allows, met, pushes, pushes_on}
use Rattle.run_laws.proofs.typed_runs.Instructions.{Does}

-- ---- results

-- no more than one
abbrev Short : List DeclaredType → Type 0
Short [] = Unit {0}
Short (d ∷ []) = Unit {0}
Short (d ∷ e ∷ ds) = ⊥

short_type : (o : Option FieldType) → Short (returned_type o)
short_type None = tt
short_type (Some t) = tt

short_method : (o : Option MethodType) → Short (option_map_or (λ (m : MethodType). returned_type m.returns) o [])
short_method None = tt
short_method (Some m) = short_type m.returns

short_results : (descriptor : Name) → Short (results_declared descriptor)
short_results descriptor = short_method (method_type descriptor)

module _ (files : Program) (os : List ReferenceType) where
  nothing_returned : (rs : List DeclaredType) → is_nothing (returned_by rs) ≡ true
      → are_typed files os (map (verification_type files) rs) [] ≡ true
  nothing_returned [] e = refl
  nothing_returned (DeclaredInt ∷ rs) e = absurd (false≢true e)
  nothing_returned (DeclaredReference t ∷ rs) e = absurd (false≢true e)

  int_returned : (rs : List DeclaredType) (v : Value) → Short rs → is_int_returned (returned_by rs) ≡ true → is_int_value v ≡ true
      → are_typed files os (map (verification_type files) rs) (v ∷ []) ≡ true
  int_returned [] v n e h = absurd (false≢true e)
  int_returned (DeclaredInt ∷ []) v n e h = and_from _ _ h refl
  int_returned (DeclaredInt ∷ d ∷ rs) v n e h = absurd n
  int_returned (DeclaredReference t ∷ rs) v n e h = absurd (false≢true e)

  reference_returned : (rs : List DeclaredType) (v : Value) → Short rs → is_reference_returned (returned_by rs) ≡ true
      → value_meets files os (slice_index_or (map (declared_want files) rs) 0 AnyWord) v ≡ true
      → are_typed files os (map (verification_type files) rs) (v ∷ []) ≡ true
  reference_returned [] v n e h = absurd (false≢true e)
  reference_returned (DeclaredInt ∷ rs) v n e h = absurd (false≢true e)
  reference_returned (DeclaredReference t ∷ []) v n e h = and_from _ _ h refl
  reference_returned (DeclaredReference t ∷ d ∷ rs) v n e h = absurd n

module _ (files : Program) (event : Event) (w : World) (f : Frame) (site : Site) (h : Here files event.thread w f site) where
  same : Keeps files w w
  same = self_keeps files w h.fits

  opened_object : (class : Name) (r : ℕ) → slice_get (types_of (opening_heap values files)) r ≡ Some (ClassType class)
      → is_object_in files (types_of w.heap) class r ≡ true
  opened_object class r e =
      subst (λ o. is_object_below files (ClassType class) o ≡ true) (sym (h.fits.opened.keeps r (ClassType class) e)) (assignable_self files (ClassType class))

  there_typed : (class : Name) (r : ℕ) → slice_get (types_of (opening_heap values files)) r ≡ Some (ClassType class)
      → Allows files f h.ready.stopped.stands site (object_meaning values site class r)
      → Does files event w f (object_meaning values site class r)
  there_typed class r e a =
      pushes files event.thread w f site h _ a (OfType (ClassType class) ∷ []) _ a.leads.0 Free w (value.Reference r ∷ []) same (and_from _ _ (opened_object class r e) refl)

  pub class_constant_typed : (class : Name) (file : FileTree) → class_of files class ≡ Some file
      → Allows files f h.ready.stopped.stands site (object_meaning values site java_lang_class (class_reference files class))
      → Does files event w f (object_meaning values site java_lang_class (class_reference files class))
  class_constant_typed class file e a = there_typed java_lang_class (class_reference files class) (class_there files class (found_any (is_named class) (is_named class) (classes_of files) file e (found_passes (is_named class) (classes_of files) file e))) a

  pub string_constant_typed : (text : List ℕ) → list_any (name_eq text) (string_texts files) ≡ true
      → Allows files f h.ready.stopped.stands site (object_meaning values site java_lang_string (string_reference files text))
      → Does files event w f (object_meaning values site java_lang_string (string_reference files text))
  string_constant_typed text e a = there_typed java_lang_string (string_reference files text) (string_there files text e) a

  pub system_stream_typed : (named : Member) (stream : ℕ) → stream_of files named ≡ Some stream
      → Allows files f h.ready.stopped.stands site (system_stream_meaning values site.next stream)
      → Does files event w f (system_stream_meaning values site.next stream)
  system_stream_typed named stream e a =
      pushes files event.thread w f site h _ a (OfType (ClassType java_io_print_stream) ∷ []) _ a.leads.0 Free w (value.Reference stream ∷ []) same (and_from _ _ (opened_object java_io_print_stream stream (stream_there files named stream e)) refl)

  -- ---- new, checkcast, instanceof

  pub new_typed : (class : Name) → Allows files f h.ready.stopped.stands site (new_meaning values files site class)
      → Does files event w f (new_meaning values files site class)
  new_typed class a =
      let os = types_of w.heap in
      let o = new_instance values files class in
      let ts = h.ready.stopped.stands.type.slots in
      pushes_on files event.thread w f site h _ a (map (forgotten site.offset) ts.locals) (Uninitialised site.offset class ∷ []) _ a.leads.0
      (of_pairs _ _ _ (pair_map_left (has_type files os) (forgotten site.offset) (λ s v q. forgotten_typed files h.linked.rooted os site.offset s v q) ts.locals f.place.slots.locals (pairs_of _ _ _ h.ready.stopped.locals)))
      (Makes (cells_of o)) (allocated w o) (value.Reference (length w.heap) ∷ [])
      (allocated_keeps files w h.fits o (new_instance_typed files (types_of (w.heap ++ o ∷ [])) class))
      (and_from _ _ (subst (λ type. is_value_below files (types_of (w.heap ++ o ∷ [])) type (value.Reference (length w.heap)) ≡ true) (new_instance_type files os class) (added_below files w.heap h.fits.heap o)) refl)

  cast_typed : (type : ReferenceType) (a : Allows files f h.ready.stopped.stands site (check_cast_meaning values files site type))
      (v : Value) (b : Bool) → is_value_of files (types_of w.heap) type v ≡ b
      → OutcomeTyped files event.thread w f (cast b site.next v w
      f.place.slots (under (check_cast_meaning values files site type).wants f.place.slots))
  cast_typed type a v true e =
      pushes files event.thread w f site h _ a (OfType (made_type files type) ∷ []) _ a.leads.0 Free w (v ∷ []) same (and_from _ _ (instance_below files h.linked (types_of w.heap) type v e) refl)
  cast_typed type a v false e = tt

  pub check_cast_typed : (type : ReferenceType) → Allows files f h.ready.stopped.stands site (check_cast_meaning values files site type)
      → Does files event w f (check_cast_meaning values files site type)
  check_cast_typed type a = cast_typed type a (operand values (ops_of values (check_cast_meaning values files site type) f.place.slots) 0) _ refl

  pub instance_of_typed : (type : ReferenceType) → Allows files f h.ready.stopped.stands site (instance_of_meaning values files site type)
      → Does files event w f (instance_of_meaning values files site type)
  instance_of_typed type a = pushes files event.thread w f site h _ a (IntType ∷ []) _ a.leads.0 Free w (value.Int _ ∷ []) same refl

  -- ---- returns

  results_here : (rs : List DeclaredType) → results_declared site.method.descriptor ≡ rs → (vs : List Value)
      → are_typed files (types_of w.heap) (map (verification_type files) rs) vs ≡ true
      → are_typed files (types_of w.heap) (result_types files f.method) vs ≡ true
  results_here rs e vs q =
      subst (λ m. are_typed files (types_of w.heap) (result_types files m) vs ≡ true) h.method_is
      (subst (λ ds. are_typed files (types_of w.heap) (map (verification_type files) ds) vs ≡ true) (sym e) q)

  pub return_typed : Allows files f h.ready.stopped.stands site (return_meaning site.method.descriptor)
      → Does files event w f (return_meaning site.method.descriptor)
  return_typed a =
      gives_back files event.thread w f [] h.fits h.live
      (results_here (results_declared site.method.descriptor) refl [] (nothing_returned files (types_of w.heap) (results_declared site.method.descriptor) (and_parts _ _ a.finds).0))

  pub int_return_typed : Allows files f h.ready.stopped.stands site (int_return_meaning values site.method.descriptor)
      → Does files event w f (int_return_meaning values site.method.descriptor)
  int_return_typed a =
      let v = operand values (ops_of values (int_return_meaning values site.method.descriptor) f.place.slots) 0 in
      let rs = results_declared site.method.descriptor in
      gives_back files event.thread w f (v ∷ []) h.fits h.live
      (results_here rs refl (v ∷ []) (int_returned files (types_of w.heap) rs v (short_results site.method.descriptor) (and_parts _ _ a.finds).0 (met files event.thread w f site h _ a 0)))

  pub reference_return_typed : Allows files f h.ready.stopped.stands site (reference_return_meaning values files site.method.descriptor)
      → Does files event w f (reference_return_meaning values files site.method.descriptor)
  reference_return_typed a =
      let v = operand values (ops_of values (reference_return_meaning values files site.method.descriptor) f.place.slots) 0 in
      let rs = results_declared site.method.descriptor in
      gives_back files event.thread w f (v ∷ []) h.fits h.live
      (results_here rs refl (v ∷ []) (reference_returned files (types_of w.heap) rs v (short_results site.method.descriptor) (and_parts _ _ a.finds).0 (met files event.thread w f site h _ a 0)))
