-- The handler that takes a pending exception: its typing reaches it, with the exception on the stack.
use Rattle.std.proofs.Common.{◌≡◌, ℕ, List, [], ◌∷◌, Bool, true, false, ◌&&◌, ◌==◌, Option, Some, None, refl, sym, ◌∙◌, subst, ⊎_elim}
use Rattle.std.specs.Prelude.{slice_get, find, if◌then◌else◌, unwrap_or}
use Rattle.std.specs.Option.{option_and_then}
use Rattle.std.specs.List.{AllByRecursion}
use Rattle.std.proofs.lemmas.Bool.{false≢true, and_parts, and_from, or_cases, cond_both}
use Rattle.std.proofs.lemmas.Option.{same_Some}
use Rattle.model.specs.declared.class_file.ExceptionEntry.{ExceptionEntry}
use Rattle.model.specs.declared.value.Value.TheVariants as value
use Rattle.model.specs.Names.{Name, java_lang_throwable}
use Rattle.model.specs.Tree.{Entry}
use Rattle.model.specs.Pool.{class_name_at}
use Rattle.model.specs.BuiltIn.{built_in_classes}
use Rattle.model.specs.Classes.{Program, body_of}
use Rattle.model.specs.DescriptorParts.{is_array_class}
use Rattle.model.specs.ReferenceTypes.{ReferenceType, ClassType, PrimitiveArray, ReferenceArray}
use Rattle.model.specs.Types.{is_object_of, is_object_below}
use Rattle.model.specs.DescribedTypes.{type_named, made_type}
use Rattle.model.specs.TypeOrder.{FrameType}
use Rattle.model.specs.State.{Frame}
use Rattle.model.specs.Frames.{at_offset}
use Rattle.model.specs.Step.{is_caught, takes, covers, handler_in}
use Rattle.model.specs.Typing.{Typing, Reaches, caught_class, handler_type, handlers_from}
use Rattle.model.specs.WellTyped.{is_object_in, Stopped, Ready}
use Rattle.run_laws.proofs.laws.Linked.{Linked}
use Rattle.run_laws.proofs.typed_runs.Frames.{arrive}
use Rattle.run_laws.proofs.typed_runs.Flows.{flow_of}

-- the class that an entry names is no array class
abbrev NamesClass : List Entry → ExceptionEntry → Type 0
NamesClass pool e = (class : Name) → class_name_at pool e.catch_type ≡ Some class → is_array_class class ≡ false

-- what is known of the handler that was found
record Caught (files : Program) (pool : List Entry) (t : FrameType) (F : Typing) (thrown : Option ReferenceType) (e : ExceptionEntry) : Type 0 where
  pub reaches : Reaches files F e.handler (handler_type files pool t e).1
  pub taken : takes files pool thrown e ≡ true
  pub named : NamesClass pool e

module _ (files : Program) (pool : List Entry) (offset : ℕ) (t : FrameType) (F : Typing) (thrown : Option ReferenceType) where
  abbrev R : ℕ × FrameType → Type 0
  R lead = Reaches files F lead.0 lead.1

  abbrev test : ExceptionEntry → Bool
  test e = covers offset e && takes files pool thrown e

  rest_of : (b : Bool) (x : ℕ × FrameType) (xs : List (ℕ × FrameType)) → AllByRecursion R (if b then x ∷ xs else xs) → AllByRecursion R xs
  rest_of true x xs h = h.1
  rest_of false x xs h = h

  at_entry : (e entry : ExceptionEntry) (later : Option ExceptionEntry) (b : Bool) → test e ≡ b → (if b then Some e else later) ≡ Some entry → AllByRecursion R (handlers_from files pool offset t (e ∷ [])) → NamesClass pool e → (later ≡ Some entry → Caught files pool t F thrown entry) → Caught files pool t F thrown entry
  at_entry e entry later true q f all named go =
      let same : e ≡ entry = same_Some e entry f in
      let both = and_parts (covers offset e) (takes files pool thrown e) q in
      let first = subst (λ b. AllByRecursion R (if b then handler_type files pool t e ∷ [] else [])) both.0 all in
      subst (Caught files pool t F thrown) same (record { reaches = first.0; taken = both.1; named = named })
  at_entry e entry later false q f all named go = go f

  first_only : (b : Bool) (x : ℕ × FrameType) (xs : List (ℕ × FrameType)) → AllByRecursion R (if b then x ∷ xs else xs) → AllByRecursion R (if b then x ∷ [] else [])
  first_only true x xs h = (h.0, tt)
  first_only false x xs h = tt

  caught_in : (es : List ExceptionEntry) (entry : ExceptionEntry) → AllByRecursion R (handlers_from files pool offset t es) → AllByRecursion (NamesClass pool) es → find test es ≡ Some entry → Caught files pool t F thrown entry
  caught_in [] entry all named f = absurd cc
  caught_in (e ∷ es) entry all named f =
      at_entry e entry (find test es) (test e) refl f (first_only (covers offset e) (handler_type files pool t e) (handlers_from files pool offset t es) all) named.0
      (caught_in es entry (rest_of (covers offset e) (handler_type files pool t e) (handlers_from files pool offset t es) all) named.1)

module _ (files : Program) (linked : Linked files) where
  not_array : (class : Name) → is_array_class class ≡ false → type_named class ≡ ClassType class
  not_array [] h = refl
  not_array (b ∷ bytes) h =
      cond_both (b == 91) _ _ (λ ty. ty ≡ ClassType (b ∷ bytes)) (λ q. absurd (false≢true (sym h ∙ q))) (λ q. refl)

  object_made : (class : Name) (s : ReferenceType) → is_object_below files (ClassType java_lang_throwable) (Some s) ≡ true → is_object_of files (ClassType class) (Some s) ≡ true → is_object_below files (made_type files (ClassType class)) (Some s) ≡ true
  object_made class (ClassType c) below h = linked.subtype_made c class h
  object_made class (PrimitiveArray a) below h = absurd (false≢true below)
  object_made class (ReferenceArray a) below h = absurd (false≢true below)

  named_made : (class : Name) (o : Option ReferenceType) → is_object_below files (ClassType java_lang_throwable) o ≡ true → is_object_of files (ClassType class) o ≡ true → is_object_below files (made_type files (ClassType class)) o ≡ true
  named_made class None below h = absurd (false≢true h)
  named_made class (Some s) below h = object_made class s below h

  class_made : (pool : List Entry) (e : ExceptionEntry) (thrown : Option ReferenceType) (n : Option Name) → class_name_at pool e.catch_type ≡ n → NamesClass pool e → is_object_below files (ClassType java_lang_throwable) thrown ≡ true → is_caught files thrown n ≡ true → is_object_below files (made_type files (type_named (unwrap_or n []))) thrown ≡ true
  class_made pool e thrown None q named below h = absurd (false≢true h)
  class_made pool e thrown (Some class) q named below h =
      subst (λ ty. is_object_below files (made_type files ty) thrown ≡ true) (sym (not_array class (named class q))) (named_made class thrown below h)

  -- the exception is of the type with which its handler begins
  exception_made : (pool : List Entry) (e : ExceptionEntry) (thrown : Option ReferenceType) → NamesClass pool e → takes files pool thrown e ≡ true → is_object_below files (ClassType java_lang_throwable) thrown ≡ true → is_object_below files (made_type files (type_named (caught_class pool e))) thrown ≡ true
  unfolding built_in_classes
  exception_made pool e thrown named taken below =
      cond_both (e.catch_type == 0) _ _ (λ n. is_object_below files (made_type files (type_named n)) thrown ≡ true)
      (λ q. below)
      (λ q. class_made pool e thrown (class_name_at pool e.catch_type) refl named below (⊎_elim (λ z. absurd (false≢true (sym q ∙ z))) (λ z. z) (or_cases (e.catch_type == 0) _ taken)))

  -- a frame at its handler
  pub handled_ready : (os : List ReferenceType) (frame : Frame) (stopped : Stopped files os frame) (exception : ℕ) (entry : ExceptionEntry) → is_object_in files os java_lang_throwable exception ≡ true → option_and_then (handler_in files frame.place.offset (slice_get os exception)) (body_of files frame.method) ≡ Some entry → Ready files os (at_offset frame entry.handler (record { locals = frame.place.slots.locals; stack = value.Reference exception ∷ [] }))
  handled_ready os frame stopped exception entry h e =
      let stands = stopped.stands in
      let flow = flow_of files frame stands in
      let found = subst (λ o. option_and_then (handler_in files frame.place.offset (slice_get os exception)) o ≡ Some entry) stands.is_body e in
      let caught = caught_in files stands.body.pool frame.place.offset stands.type stands.typing (slice_get os exception) stands.body.code.exceptions entry flow.handled (linked.catches frame.method stands.body stands.is_body) found in
      arrive files linked.rooted os frame stands entry.handler (handler_type files stands.body.pool stands.type entry).1 (record { locals = frame.place.slots.locals; stack = value.Reference exception ∷ [] }) caught.reaches
      (record { locals = stopped.locals; stack = and_from _ _ (exception_made stands.body.pool entry (slice_get os exception) caught.named caught.taken h) refl })
