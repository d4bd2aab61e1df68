-- The object of each instruction of linked files is null or of the class or kind that the instruction needs.
use Rattle.std.proofs.Common.{◌≡◌, ℕ, suc, ◌+◌, List, [], ◌∷◌, ◌++◌, length, map, reverse, drop, Bool, true, false, ◌&&◌, if◌then◌else◌, Option, Some, None, option_map, refl, sym, ap, ◌∙◌, subst, ⊎_elim, arith}
use Rattle.std.specs.Prelude.{slice_get, nat_le}
use Rattle.std.specs.Option.{option_and_then, option_map_or}
use Rattle.std.proofs.lemmas.Bool.{true≢false, and_parts, or_cases, or_left, or_right}
use Rattle.std.proofs.lemmas.Option.{same_Some}
use Rattle.std.proofs.lemmas.List.{length-map, length-reverse}
use Rattle.model.specs.declared.instr.ArrayKind.{ArrayKind}
use Rattle.model.specs.declared.instr.ArrayKind.TheVariants as array_kind
use Rattle.model.specs.declared.instr.FieldAccess.TheVariants as access
use Rattle.model.specs.declared.instr.Instr.{Instr}
use Rattle.model.specs.declared.instr.Instr.TheVariants as instr
use Rattle.model.specs.declared.instr.Invocation.TheVariants as invocation
use Rattle.model.specs.DescriptorParts.{is_array_class}
use Rattle.model.specs.Names.{Name, name_eq, Member, member_eq, constructor_name, println_int, java_lang_object, java_lang_throwable, java_io_print_stream}
use Rattle.model.specs.Tree.{MethodTree}
use Rattle.model.specs.Pool.{class_name_at, field_at, method_at, interface_method_at}
use Rattle.model.specs.Classes.{Program, Body, body_of, classes_of, is_within, is_subclass, is_interface, lineage, all_superinterfaces}
use Rattle.model.specs.Instruction.{Sized, sized_at}
use Rattle.model.specs.InstructionStarts.{is_start}
use Rattle.model.specs.Lookup.{find_field, field_of, is_instance_field, method_of, in_class, first_found, method_in_class, any_method, searched_class, find_method, is_public_instance_method, find_interface_method}
use Rattle.model.specs.ReferenceTypes.{Char, Short, Int, ReferenceType, ClassType, PrimitiveArray, ReferenceArray, is_assignable}
use Rattle.model.specs.DescribedTypes.{parameters_declared, declared_want, type_named, made_type}
use Rattle.model.specs.Types.{Want, AReference, AReceiver, AnOwner, AnArray, AByteArray, is_array_type, is_byte_array_type}
use Rattle.model.specs.Operands.{Slots, Domain, Wants, words, over_words, reads_meet, pops_meet, is_ready}
use Rattle.model.specs.Objects.{any_object, check_cast_meaning, instance_of_meaning}
use Rattle.model.specs.Arrays.{load_of, store_of, array_length_meaning}
use Rattle.model.specs.ThrowMeaning.{throw_meaning}
use Rattle.model.specs.MonitorMeanings.{monitor_enter_meaning, monitor_exit_meaning}
use Rattle.model.specs.State.{ObjectOf, Instance, Primitives, References, type_of, types_of, FrameOf, StateOf, Characters}
use Rattle.model.specs.Sites.{MeaningOf, Site, site_with, site_at}
use Rattle.model.specs.Calls.{parameter_count, argument_wants, is_one, is_instance_one, if_method, of_class, virtual_call, virtual_of, special_call, constructor_call, special_of, interface_call, interface_of}
use Rattle.model.specs.Meanings.{get_field_of, put_field_of, owner_want, if_field, field_meaning, println_meaning, invoke_virtual_meaning, meaning_of}
use Rattle.model.specs.Words.{AreWellTypedWords}
use Rattle.run_laws.proofs.laws.Found.{some_from}
use Rattle.run_laws.proofs.laws.NamedTypes.{named_type}
use Rattle.run_laws.proofs.laws.Classes.{names_same, members_same, more_steps, above_object}
use Rattle.run_laws.proofs.laws.Order.{assignable_trans}
use Rattle.run_laws.proofs.laws.Linked.{Linked}
use Rattle.run_laws.proofs.laws.Unrefused.{Unrefused}
use Rattle.run_laws.specs.word_operands.Operands.{IsOnTop, HasMeaning, word_meets}
use Rattle.run_laws.specs.word_operands.Receivers.{AreInstances, is_instance_below, has_class_below, is_called_on, is_array, is_array_of, is_any, is_null_or, Receiver, receiver, receiver_of, IsReceived}
use Rattle.run_laws.proofs.word_operands.Meant.{meant, operands_found}
use Rattle.run_laws.proofs.word_operands.Fields.{or_some, where_is, names_field}
use Rattle.run_laws.proofs.word_operands.Objects.{println_count, of_objects, received, instance_fits, class_fits, array_fits, bytes_fit, ints_fit, chars_fit, shorts_fit, references_fit}

-- ---- where the object of a call stands

after_front : {A : Type 0} (xs : List A) (y : A) → slice_get (xs ++ y ∷ []) (length xs) ≡ Some y
after_front [] y = refl
after_front (x ∷ xs) y = after_front xs y

of_if : {A : Type 0} (b : Bool) (x m : A) → (if b then Some x else None) ≡ Some m → (b ≡ true) × (x ≡ m)
of_if true x m e = (refl, same_Some x m e)
of_if false x m e = absurd cc

some_mapped : {A B : Type 0} (f : A → B) (o : Option A) (m : B) → option_map f o ≡ Some m → (a : A) × (f a ≡ m)
some_mapped f None m e = absurd cc
some_mapped f (Some a) m e = (a, same_Some (f a) m e)

-- the test of operands of what is popped
ready_pops : {A : Type 0} (accepts : Want → A → Bool) (D : Domain A) (w : Wants) (max : ℕ) (s : Slots A)
    → is_ready accepts D w max s ≡ true → pops_meet accepts w.pops s.stack ≡ true
ready_pops accepts D w max s e =
    let room = nat_le (length (drop (length w.pops) s.stack) + w.grows) max in
    let a = and_parts w.allowed (reads_meet accepts D w.reads s.locals && (pops_meet accepts w.pops s.stack && room)) e in
    let b = and_parts (reads_meet accepts D w.reads s.locals) (pops_meet accepts w.pops s.stack && room) a.1 in
    (and_parts (pops_meet accepts w.pops s.stack) room b.1).0

module _ (files : Program) where
  -- under the arguments
  receiver_at : (method named : Member) (want : Want) → method.descriptor ≡ named.descriptor
      → slice_get (argument_wants files method (want ∷ [])) (parameter_count named) ≡ Some want
  receiver_at method named want same =
      let wants = map (declared_want files) (parameters_declared method.descriptor) in
      let count : length (reverse wants) ≡ parameter_count named =
      length-reverse wants ∙ (length-map (parameters_declared method.descriptor) (declared_want files) ∙ ap (λ d. length (parameters_declared d)) same)
      in
      subst (λ n. slice_get (reverse wants ++ want ∷ []) n ≡ Some want) count (after_front (reverse wants) want)

  -- ---- what is found has the descriptor that is named

  declared_same : (wanted : MethodTree → Bool) (m : Member) (class : Name) (found : Member)
      → method_in_class files wanted m class ≡ Some found → found.descriptor ≡ m.descriptor
  declared_same wanted m class found e = ap (λ (x : Member). x.descriptor) (where_is (option_map_or wanted (method_of files (in_class class m)) false) (in_class class m) found e)

  first_same : (wanted : MethodTree → Bool) (m : Member) (names : List Name) (found : Member)
      → first_found (method_in_class files wanted m) names ≡ Some found → found.descriptor ≡ m.descriptor
  first_same wanted m [] found e = absurd cc
  first_same wanted m (x ∷ xs) found e =
      ⊎_elim (λ here. declared_same wanted m x found here) (λ later. first_same wanted m xs found later)
      (or_some (method_in_class files wanted m x) (first_found (method_in_class files wanted m) xs) found e)

  pub method_same : (named found : Member) → find_method files named ≡ Some found → found.descriptor ≡ named.descriptor
  method_same named found e =
      ⊎_elim (λ above. first_same any_method named (lineage files (searched_class named.class)) found above)
      (λ aside. first_same any_method named (all_superinterfaces files (searched_class named.class)) found aside)
      (or_some (first_found (method_in_class files any_method named) (lineage files (searched_class named.class))) _ found e)

  pub interface_method_same : (named found : Member) → find_interface_method files named ≡ Some found → found.descriptor ≡ named.descriptor
  interface_method_same named found e =
      ⊎_elim (λ own. declared_same any_method named named.class found own)
      (λ other. ⊎_elim
      (λ object. declared_same is_public_instance_method named java_lang_object found object)
      (λ above. first_same any_method named (all_superinterfaces files named.class) found above)
      (or_some (method_in_class files is_public_instance_method named java_lang_object) _ found other))
      (or_some (method_in_class files any_method named named.class) _ found e)

  -- ---- from wants to objects

  module _ (heap : List (ObjectOf ℕ)) (stack : List ℕ) where
    abbrev Meets : MeaningOf ℕ → Type 0
    Meets m = pops_meet (word_meets files (types_of heap)) m.wants.pops stack ≡ true

    -- of a meaning that is this one
    by_want : (x m : MeaningOf ℕ) → x ≡ m → Meets m → (k : ℕ) (w : Want) (test : ObjectOf ℕ → Bool) → slice_get x.wants.pops k ≡ Some w
        → ((n : ℕ) → word_meets files (types_of heap) w n ≡ true → is_null_or heap test n ≡ true) → IsReceived heap stack (receiver k test)
    by_want x m is met k w test q each =
        received heap files stack x.wants.pops k w test (subst Meets (sym is) met) q each

    -- of a receiver that is this one
    by_receiver : (a b : Receiver) → Some a ≡ Some b → IsReceived heap stack a → IsReceived heap stack b
    by_receiver a b e h = subst (IsReceived heap stack) (same_Some a b e) h

    class_word : (type : ReferenceType) (class : Name)
        → ((t : ReferenceType) → is_assignable files t type ≡ true → is_assignable files t (ClassType class) ≡ true) → (n : ℕ)
        → word_meets files (types_of heap) (AReference type) n ≡ true → is_null_or heap (has_class_below files class) n ≡ true
    class_word type class below n e = of_objects heap (λ t. is_assignable files t type) (has_class_below files class) (λ o h. class_fits files class o (below (type_of o) h)) n e

    any_word : (type : ReferenceType) (n : ℕ) → word_meets files (types_of heap) (AReference type) n ≡ true
        → is_null_or heap is_any n ≡ true
    any_word type n e = of_objects heap (λ t. is_assignable files t type) is_any (λ o h. refl) n e

    -- ---- of the class that is named

    -- an interface is below itself and Object alone
    interface_below : Linked files → (current named : Name) → is_interface files current ≡ true → is_interface files named ≡ false
        → is_subclass files current named ≡ true → java_lang_object ≡ named
    interface_below linked current named i is_class below =
        let n = length (classes_of files) in
        ⊎_elim
        (λ same. absurd (true≢false (sym i ∙ (ap (is_interface files) (names_same current named same) ∙ is_class))))
        (λ above. above_object files named (subst (λ o. option_map_or (λ s. is_within files n s named) o false ≡ true) (linked.interface_super current i) above))
        (or_cases (name_eq current named) _ (more_steps files n (suc n) current named (omega arith) below))

    -- what is of the current class is of each class above it that an invokespecial may name
    of_current : Linked files → (current named : Name) → is_interface files named ≡ false → is_subclass files current named ≡ true
        → (t : ReferenceType) → is_assignable files t (made_type files (ClassType current)) ≡ true
        → is_assignable files t (ClassType named) ≡ true
    of_current linked current named is_class below t e = by (is_interface files current) refl e
      where
        by : (b : Bool) → is_interface files current ≡ b
            → is_assignable files t (ClassType (if b then java_lang_object else current)) ≡ true
            → is_assignable files t (ClassType named) ≡ true
        by true i h = subst (λ n. is_assignable files t (ClassType n) ≡ true) (interface_below linked current named i is_class below) h
        by false i h = assignable_trans files linked.rooted t (ClassType current) (ClassType named) h below

    of_named : (named : Name) → is_interface files named ≡ false → (t : ReferenceType)
        → is_assignable files t (made_type files (ClassType named)) ≡ true → is_assignable files t (ClassType named) ≡ true
    of_named named is_class t e = subst (λ (b : Bool). is_assignable files t (ClassType (if b then java_lang_object else named)) ≡ true) is_class e

    -- of an array class nothing is asked
    called_word : (named : Name) → is_interface files named ≡ false → (n : ℕ)
        → word_meets files (types_of heap) (AReference (made_type files (type_named named))) n ≡ true → is_null_or heap (is_called_on files named) n ≡ true
    called_word named is_class n e =
        of_objects heap (λ t. is_assignable files t (made_type files (type_named named))) (is_called_on files named) (λ o h. by o (is_array_class named) refl h) n e
      where
        by : (o : ObjectOf ℕ) → (b : Bool) → is_array_class named ≡ b → is_assignable files (type_of o) (made_type files (type_named named)) ≡ true
            → is_called_on files named o ≡ true
        by o true a h = or_left (is_array_class named) _ a
        by o false a h =
            or_right (is_array_class named) _
            (class_fits files named o (of_named named is_class (type_of o) (subst (λ t. is_assignable files (type_of o) (made_type files t) ≡ true) (named_type named a) h)))

    -- ---- each instruction

    module _ (linked : Linked files) (ok : Unrefused files) (method : Member) (body : Body) (offset size : ℕ) (is_body : body_of files method ≡ Some body) (start : is_start body.code.code offset ≡ true) where
      abbrev site_of : Instr → Site
      site_of i = site_with method body offset (i, size)

      abbrev Received : Instr → Type 0
      Received i =
          sized_at body.code.code offset ≡ Some (i, size) → (m : MeaningOf ℕ) → meaning_of words files (site_of i) ≡ Some m → Meets m
          → (of : Receiver) → receiver_of files (site_of i) i ≡ Some of → IsReceived heap stack of

      get_field : (index : ℕ) → Received (instr.Field access.GetField index)
      get_field index at m means met of e =
          let next = offset + size in
          let named = some_from (field_meaning words files next access.GetField) (field_at body.pool index) m means in
          let field = some_from (if_field is_instance_field files (get_field_of words files next named.0.class)) (find_field files named.0) m named.2 in
          let is = of_if (option_map_or is_instance_field (field_of files field.0) false) (get_field_of words files next named.0.class field.0) m field.2 in
          let names = names_field files ok named.0 field.0 field.1 is.0 in
          let test : ObjectOf ℕ → Bool = is_instance_below files field.0.class in
          let type = made_type files (ClassType named.0.class) in
          by_receiver (receiver 0 test) of
          (sym (ap (option_map (λ (x : Member). receiver 0 (is_instance_below files x.class))) (ap (option_and_then (find_field files)) named.1 ∙ field.1)) ∙ e)
          (by_want (get_field_of words files next named.0.class field.0) m is.1 met 0 (of_class files named.0.class) test refl
          (λ n h. of_objects heap (λ t. is_assignable files t type) test (λ o q. instance_fits files type field.0.class names.receivers o q) n h))

      owner_word : (named : Name) (field : Member) (class : Name) → AreInstances files (made_type files (ClassType named)) class
          → AreInstances files (ClassType named) class → (n : ℕ) → word_meets files (types_of heap) (owner_want files named field) n ≡ true
          → is_null_or heap (is_instance_below files class) n ≡ true
      owner_word named field class receivers own n h = by (name_eq named field.class) h
        where
          by : (b : Bool) → word_meets files (types_of heap) (if b then AnOwner named else of_class files named) n ≡ true
              → is_null_or heap (is_instance_below files class) n ≡ true
          by true q = of_objects heap (λ t. is_assignable files t (ClassType named)) (is_instance_below files class) (λ o p. instance_fits files (ClassType named) class own o p) n q
          by false q = of_objects heap (λ t. is_assignable files t (made_type files (ClassType named))) (is_instance_below files class) (λ o p. instance_fits files (made_type files (ClassType named)) class receivers o p) n q

      put_field : (index : ℕ) → Received (instr.Field access.PutField index)
      put_field index at m means met of e =
          let next = offset + size in
          let named = some_from (field_meaning words files next access.PutField) (field_at body.pool index) m means in
          let field = some_from (if_field is_instance_field files (put_field_of words files next named.0.class)) (find_field files named.0) m named.2 in
          let is = of_if (option_map_or is_instance_field (field_of files field.0) false) (put_field_of words files next named.0.class field.0) m field.2 in
          let names = names_field files ok named.0 field.0 field.1 is.0 in
          by_receiver (receiver 1 (is_instance_below files field.0.class)) of
          (sym (ap (option_map (λ (x : Member). receiver 1 (is_instance_below files x.class))) (ap (option_and_then (find_field files)) named.1 ∙ field.1)) ∙ e)
          (by_want (put_field_of words files next named.0.class field.0) m is.1 met 1 (owner_want files named.0.class field.0) (is_instance_below files field.0.class) refl
          (owner_word named.0.class field.0 field.0.class names.receivers names.own))

      -- ---- calls

      abbrev called : Member → Receiver
      called named = receiver (parameter_count named) (has_class_below files named.class)

      abbrev called_on : Member → Receiver
      called_on named = receiver (parameter_count named) (is_called_on files named.class)

      virtual_by : (i : Instr) (m : MeaningOf ℕ) → Meets m → (named : Member) → is_interface files named.class ≡ false → (b : Bool)
          → member_eq named println_int ≡ b
          → (if b then Some (println_meaning words (offset + size)) else virtual_of words files (site_of i) named) ≡ Some m
          → IsReceived heap stack (called_on named)
      virtual_by i m met named is_class true q e =
          subst (λ (x : Member). IsReceived heap stack (called_on x)) (sym (members_same named println_int q))
          (subst (λ k. IsReceived heap stack (receiver k (has_class_below files java_io_print_stream))) (sym println_count)
          (by_want (println_meaning words (offset + size)) m (same_Some _ m e) met 1 (AReference (ClassType java_io_print_stream)) (has_class_below files java_io_print_stream) refl
          (class_word (ClassType java_io_print_stream) java_io_print_stream (λ t h. h))))
      virtual_by i m met named is_class false q e =
          let found = some_from (if_method is_instance_one files (virtual_call words files (site_of i) named.class)) (find_method files named) m e in
          let is = of_if (is_one is_instance_one files found.0) (virtual_call words files (site_of i) named.class found.0) m found.2 in
          let want = AReference (made_type files (type_named named.class)) in
          by_want (virtual_call words files (site_of i) named.class found.0) m is.1 met (parameter_count named) want (is_called_on files named.class)
          (receiver_at found.0 named want (method_same named found.0 found.1))
          (called_word named.class is_class)

      virtual : (index : ℕ) → Received (instr.Invoke invocation.Virtual index)
      virtual index at m means met of e =
          let i : Instr = instr.Invoke invocation.Virtual index in
          let named = some_from (invoke_virtual_meaning words files (site_of i)) (method_at body.pool index) m means in
          let is_class = linked.calls_class method body offset size invocation.Virtual index named.0 is_body start at named.1 in
          by_receiver (called_on named.0) of (sym (ap (option_map (λ (x : Member). called_on x)) named.1) ∙ e)
          (virtual_by i m met named.0 is_class (member_eq named.0 println_int) refl named.2)

      special_by : (i : Instr) (m : MeaningOf ℕ) → Meets m → (named : Member) → is_interface files named.class ≡ false
          → (name_eq named.name constructor_name ≡ false → is_subclass files method.class named.class ≡ true) → (b : Bool)
          → name_eq named.name constructor_name ≡ b
          → (if b then if_method is_instance_one files (constructor_call words files (site_of i)) named else
          option_and_then (if_method is_instance_one files (special_call words files (site_of i) named.class)) (find_method files named))
          ≡ Some m
          → IsReceived heap stack (called named)
      special_by i m met named is_class below true q e =
          let is = of_if (is_one is_instance_one files named) (constructor_call words files (site_of i) named) m e in
          by_want (constructor_call words files (site_of i) named) m is.1 met (parameter_count named) (AReceiver named.class) (has_class_below files named.class)
          (receiver_at named named (AReceiver named.class) refl)
          (class_word (ClassType named.class) named.class (λ t h. h))
      special_by i m met named is_class below false q e =
          let found = some_from (if_method is_instance_one files (special_call words files (site_of i) named.class)) (find_method files named) m e in
          let is = of_if (is_one is_instance_one files found.0) (special_call words files (site_of i) named.class found.0) m found.2 in
          by_want (special_call words files (site_of i) named.class found.0) m is.1 met (parameter_count named) (of_class files method.class) (has_class_below files named.class)
          (receiver_at found.0 named (of_class files method.class) (method_same named found.0 found.1))
          (class_word (made_type files (ClassType method.class)) named.class (of_current linked method.class named.class is_class (below q)))

      special : (index : ℕ) → Received (instr.Invoke invocation.Special index)
      special index at m means met of e =
          let i : Instr = instr.Invoke invocation.Special index in
          let named = some_from (special_of words files (site_of i)) (method_at body.pool index) m means in
          let is_class = linked.calls_class method body offset size invocation.Special index named.0 is_body start at named.1 in
          by_receiver (called named.0) of (sym (ap (option_map (λ (x : Member). called x)) named.1) ∙ e)
          (special_by i m met named.0 is_class (linked.special method body offset size index named.0 is_body start at named.1) (name_eq named.0.name constructor_name) refl named.2)

      interface : (index count last : ℕ) → Received (instr.InvokeInterface index count last)
      interface index count last at m means met of e =
          let i : Instr = instr.InvokeInterface index count last in
          let named = some_from (interface_of words files (site_of i)) (interface_method_at body.pool index) m means in
          let found = some_from (if_method is_instance_one files (interface_call words files (site_of i) named.0.class)) (find_interface_method files named.0) m named.2 in
          let is = of_if (is_one is_instance_one files found.0) (interface_call words files (site_of i) named.0.class found.0) m found.2 in
          by_receiver (receiver (parameter_count named.0) is_any) of (sym (ap (option_map (λ (x : Member). receiver (parameter_count x) is_any)) named.1) ∙ e)
          (by_want (interface_call words files (site_of i) named.0.class found.0) m is.1 met (parameter_count named.0) (of_class files named.0.class) is_any
          (receiver_at found.0 named.0 (of_class files named.0.class) (interface_method_same named.0 found.0 found.1))
          (any_word (made_type files (ClassType named.0.class))))

      -- ---- arrays

      load : (kind : ArrayKind) (m : MeaningOf ℕ) → Some (load_of words files (site_of (instr.LoadElement kind)) kind) ≡ Some m → Meets m
          → IsReceived heap stack (receiver 1 (is_array_of kind))
      load array_kind.Int m e met = by_want _ m (same_Some _ m e) met 1 (AReference (PrimitiveArray Int)) (is_array_of array_kind.Int) refl (λ n h. of_objects heap (λ t. is_assignable files t (PrimitiveArray Int)) (is_array_of array_kind.Int) (ints_fit files) n h)
      load array_kind.Reference m e met = by_want _ m (same_Some _ m e) met 1 (AReference (ReferenceArray any_object)) (is_array_of array_kind.Reference) refl (λ n h. of_objects heap (λ t. is_assignable files t (ReferenceArray any_object)) (is_array_of array_kind.Reference) (references_fit files) n h)
      load array_kind.ByteOrBoolean m e met = by_want _ m (same_Some _ m e) met 1 AByteArray (is_array_of array_kind.ByteOrBoolean) refl (λ n h. of_objects heap is_byte_array_type (is_array_of array_kind.ByteOrBoolean) (bytes_fit files) n h)
      load array_kind.Char m e met = by_want _ m (same_Some _ m e) met 1 (AReference (PrimitiveArray Char)) (is_array_of array_kind.Char) refl (λ n h. of_objects heap (λ t. is_assignable files t (PrimitiveArray Char)) (is_array_of array_kind.Char) (chars_fit files) n h)
      load array_kind.Short m e met = by_want _ m (same_Some _ m e) met 1 (AReference (PrimitiveArray Short)) (is_array_of array_kind.Short) refl (λ n h. of_objects heap (λ t. is_assignable files t (PrimitiveArray Short)) (is_array_of array_kind.Short) (shorts_fit files) n h)

      store : (kind : ArrayKind) (m : MeaningOf ℕ) → Some (store_of words files (site_of (instr.StoreElement kind)) kind) ≡ Some m
          → Meets m → IsReceived heap stack (receiver 2 (is_array_of kind))
      store array_kind.Int m e met = by_want _ m (same_Some _ m e) met 2 (AReference (PrimitiveArray Int)) (is_array_of array_kind.Int) refl (λ n h. of_objects heap (λ t. is_assignable files t (PrimitiveArray Int)) (is_array_of array_kind.Int) (ints_fit files) n h)
      store array_kind.Reference m e met = by_want _ m (same_Some _ m e) met 2 (AReference (ReferenceArray any_object)) (is_array_of array_kind.Reference) refl (λ n h. of_objects heap (λ t. is_assignable files t (ReferenceArray any_object)) (is_array_of array_kind.Reference) (references_fit files) n h)
      store array_kind.ByteOrBoolean m e met = by_want _ m (same_Some _ m e) met 2 AByteArray (is_array_of array_kind.ByteOrBoolean) refl (λ n h. of_objects heap is_byte_array_type (is_array_of array_kind.ByteOrBoolean) (bytes_fit files) n h)
      store array_kind.Char m e met = by_want _ m (same_Some _ m e) met 2 (AReference (PrimitiveArray Char)) (is_array_of array_kind.Char) refl (λ n h. of_objects heap (λ t. is_assignable files t (PrimitiveArray Char)) (is_array_of array_kind.Char) (chars_fit files) n h)
      store array_kind.Short m e met = by_want _ m (same_Some _ m e) met 2 (AReference (PrimitiveArray Short)) (is_array_of array_kind.Short) refl (λ n h. of_objects heap (λ t. is_assignable files t (PrimitiveArray Short)) (is_array_of array_kind.Short) (shorts_fit files) n h)

      -- ---- classes, exceptions and monitors

      cast : (index : ℕ) → Received (instr.CheckCast index)
      cast index at m means met of e =
          let i : Instr = instr.CheckCast index in
          let named = some_mapped (λ (name : Name). check_cast_meaning words files (site_of i) (type_named name)) (class_name_at body.pool index) m means in
          by_receiver (receiver 0 is_any) of e
          (by_want (check_cast_meaning words files (site_of i) (type_named named.0)) m named.1 met 0 (AReference any_object) is_any refl (any_word any_object))

      instance : (index : ℕ) → Received (instr.InstanceOf index)
      instance index at m means met of e =
          let i : Instr = instr.InstanceOf index in
          let named = some_mapped (λ (name : Name). instance_of_meaning words files (site_of i) (type_named name)) (class_name_at body.pool index) m means in
          by_receiver (receiver 0 is_any) of e
          (by_want (instance_of_meaning words files (site_of i) (type_named named.0)) m named.1 met 0 (AReference any_object) is_any refl (any_word any_object))

      throwable_word : (n : ℕ) → word_meets files (types_of heap) (AReference (ClassType java_lang_throwable)) n ≡ true
          → is_null_or heap (is_instance_below files java_lang_throwable) n ≡ true
      throwable_word n h = of_objects heap (λ t. is_assignable files t (ClassType java_lang_throwable)) (is_instance_below files java_lang_throwable) by n h
        where
          by : (o : ObjectOf ℕ) → is_assignable files (type_of o) (ClassType java_lang_throwable) ≡ true
              → is_instance_below files java_lang_throwable o ≡ true
          by (Instance c fields) q = q
          by (Primitives of elements) q = q
          by (References of elements) q = q
          by (Characters text) q = q

      by_instr : (i : Instr) → Received i
      by_instr (instr.Field access.GetField index) at m means met of e = get_field index at m means met of e
      by_instr (instr.Field access.PutField index) at m means met of e = put_field index at m means met of e
      by_instr (instr.Invoke invocation.Virtual index) at m means met of e = virtual index at m means met of e
      by_instr (instr.Invoke invocation.Special index) at m means met of e = special index at m means met of e
      by_instr (instr.InvokeInterface index count last) at m means met of e = interface index count last at m means met of e
      by_instr instr.ArrayLength at m means met of e =
          by_receiver (receiver 0 is_array) of e
          (by_want (array_length_meaning words (site_of instr.ArrayLength)) m (same_Some _ m means) met 0 AnArray is_array refl (λ n h. of_objects heap is_array_type is_array (array_fits files) n h))
      by_instr (instr.LoadElement kind) at m means met of e = by_receiver (receiver 1 (is_array_of kind)) of e (load kind m means met)
      by_instr (instr.StoreElement kind) at m means met of e = by_receiver (receiver 2 (is_array_of kind)) of e (store kind m means met)
      by_instr (instr.CheckCast index) at m means met of e = cast index at m means met of e
      by_instr (instr.InstanceOf index) at m means met of e = instance index at m means met of e
      by_instr instr.Throw at m means met of e =
          by_receiver (receiver 0 (is_instance_below files java_lang_throwable)) of e
          (by_want (throw_meaning words) m (same_Some _ m means) met 0 (AReference (ClassType java_lang_throwable)) (is_instance_below files java_lang_throwable) refl throwable_word)
      by_instr instr.MonitorEnter at m means met of e =
          by_receiver (receiver 0 is_any) of e
          (by_want (monitor_enter_meaning words (site_of instr.MonitorEnter)) m (same_Some _ m means) met 0 (AReference any_object) is_any refl (any_word any_object))
      by_instr instr.MonitorExit at m means met of e =
          by_receiver (receiver 0 is_any) of e
          (by_want (monitor_exit_meaning words (site_of instr.MonitorExit)) m (same_Some _ m means) met 0 (AReference any_object) is_any refl (any_word any_object))
      by_instr _ at m means met of e = absurd cc

    module _ (linked : Linked files) (ok : Unrefused files) (method : Member) (body : Body) (offset : ℕ) (is_body : body_of files method ≡ Some body) (start : is_start body.code.code offset ≡ true) where
      abbrev ReceivedAt : Site → Type 0
      ReceivedAt site = (m : MeaningOf ℕ) → meaning_of words files site ≡ Some m → Meets m → (of : Receiver) → receiver_of files site site.instr ≡ Some of → IsReceived heap stack of

      by_size : (o : Option Sized) → sized_at body.code.code offset ≡ o → (site : Site)
          → option_map (site_with method body offset) o ≡ Some site → ReceivedAt site
      by_size None q site e = absurd cc
      by_size (Some z) q site e =
          subst ReceivedAt (same_Some (site_with method body offset z) site e) (by_instr linked ok method body offset z.1 is_body start z.0 q)

      pub at_site : (site : Site) → site_at method body offset ≡ Some site → ReceivedAt site
      at_site site e = by_size (sized_at body.code.code offset) refl site e

  -- ---- the frame on top

  pub receivers : Linked files → Unrefused files → (state : StateOf ℕ) → AreWellTypedWords files state → (t : ℕ) (frame : FrameOf ℕ)
      → IsOnTop state t frame
      → (body : Body) (site : Site) (of : Receiver) → body_of files frame.method ≡ Some body
      → site_at frame.method body frame.place.offset ≡ Some site → receiver_of files site site.instr ≡ Some of
      → IsReceived state.world.heap frame.place.slots.stack of
  receivers linked ok state h t frame on body site of is_body is_site e =
      let here : HasMeaning files frame = meant files linked.rooted state h t frame on in
      let body_is : here.body ≡ body = same_Some here.body body (sym here.is_body ∙ is_body) in
      let site_is : here.site ≡ site = same_Some here.site site (sym here.is_site ∙ (ap (λ (b : Body). site_at frame.method b frame.place.offset) body_is ∙ is_site)) in
      let start : is_start body.code.code frame.place.offset ≡ true = subst (λ (b : Body). is_start b.code.code frame.place.offset ≡ true) body_is here.starts in
      let means : meaning_of words files site ≡ Some here.meaning = subst (λ (s : Site). meaning_of words files s ≡ Some here.meaning) site_is here.means in
      let finds = operands_found files linked.rooted state h t frame on body site here.meaning is_body is_site means in
      at_site state.world.heap frame.place.slots.stack linked ok frame.method body frame.place.offset is_body start site is_site here.meaning means
      (ready_pops (word_meets files (types_of state.world.heap)) over_words here.meaning.wants body.code.max_stack frame.place.slots finds.ready) of e
