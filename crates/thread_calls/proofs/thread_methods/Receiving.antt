-- What a call runs on the receiver among its operands, by their words.
use Rattle.std.proofs.Common.{◌≡◌, refl, sym, ap, subst, ◌∙◌, ℕ, zero, suc, List, [], ◌∷◌, ◌++◌, map, length, reverse, Bool, true, false, Option, Some, None, if◌then◌else◌}
use Rattle.std.specs.Prelude.{is_some, not, ◌&&◌, slice_get, slice_index_or}
use Rattle.std.specs.Option.{option_and_then, option_map_or}
use Rattle.std.specs.List.{list_all}
use Rattle.std.proofs.lemmas.Bool.{false≢true}
use Rattle.std.proofs.lemmas.List.{length-map, length-reverse}
use Rattle.std.proofs.lemmas.Option.{same_Some, none-some}
use Rattle.thread_calls.specs.declared.thread_methods.ThreadMethod.{ThreadMethod}
use Rattle.model.specs.declared.instr.Instr.{Instr}
use Rattle.model.specs.declared.instr.Instr.TheVariants as instr
use Rattle.model.specs.declared.instr.Invocation.TheVariants as invocation
use Rattle.model.specs.declared.value.Value.{Value}
use Rattle.model.specs.BuiltIn.{built_in_classes}
use Rattle.model.specs.BuiltInMethods.{built_in_method, built_in_methods}
use Rattle.model.specs.Calls.{Chosen, Runs, parameter_count, argument_wants, is_one, is_instance_one, if_method, selected, its_class, of_receiver, if_implements, special_class, call_on, of_class, of_named, leads_after, constructed_leads, static_call, virtual_call, virtual_of, special_call, constructor_call, special_of, interface_call, interface_of}
use Rattle.model.specs.Classes.{Program, Body, body_of}
use Rattle.model.specs.DescribedTypes.{declared_want, parameters_declared}
use Rattle.model.specs.Lookup.{method_of, find_method, find_interface_method, is_static_method}
use Rattle.model.specs.Meanings.{meaning_of, local_or, local_meaning, other_meaning, println_meaning, invoke_virtual_meaning}
use Rattle.model.specs.Names.{name_eq, Member, member_eq, constructor_name, println_int}
use Rattle.model.specs.Operands.{Slots, values, word_of, word_reference}
use Rattle.model.specs.Pool.{integers_of, method_at, interface_method_at}
use Rattle.model.specs.ReferenceTypes.{ClassType, is_subtype}
use Rattle.model.specs.Rows.{Row, local_row}
use Rattle.model.specs.Sites.{Leads, MeaningOf, Site, referent}
use Rattle.model.specs.State.{ObjectOf, type_of, types_of, World}
use Rattle.model.specs.Step.{ops_of}
use Rattle.model.specs.Tree.{MethodTree}
use Rattle.model.specs.Types.{Want, AReceiver}
use Rattle.model.specs.Words.{map_world}
use Rattle.model.specs.Worlds.{object_at, class_of_object}
use Rattle.run_laws.specs.word_operands.Receivers.{receiver, is_null_or, IsReceived}
use Rattle.run_laws.proofs.laws.Classes.{members_same}
use Rattle.run_laws.proofs.laws.WordLists.{is_object_want}
use Rattle.run_laws.proofs.word_runs.WordBuiltIns.{passes, passed}
use Rattle.run_laws.proofs.word_runs.WordWorlds.{object_at_words, class_words, type_words}
use Rattle.data_races.specs.EventActions.{without_code, chosen_on, interface_choice, run_virtual, run_special, run_interface, method_run, built_in_run}
use Rattle.next_accesses.specs.accesses.Accesses.{object_under}
use Rattle.thread_calls.specs.thread_methods.Called.{as_thread_method, is_on_receiver, method_told, receiver_depth, run_on, object_in, called_virtual, called_interface, called_special, IsReceiverThere}
use Rattle.next_accesses.specs.read_operands.Reads.{IsReference}
use Rattle.thread_calls.proofs.thread_methods.Named.{method_described, selected_describes, never, never_on, counted, depth_is, implements_describes, runs_same}
use Rattle.next_accesses.proofs.read_operands.Reading.{reference_is}

-- ---- a receiver is there

refers : (w r : ℕ) → word_reference w ≡ Some r → w ≡ suc r
refers zero r e = absurd cc
refers (suc n) r e = ap suc (same_Some n r e)

there_by : (heap : List (ObjectOf ℕ)) (test : ObjectOf ℕ → Bool) (r : ℕ) → is_null_or heap test (suc r) ≡ true → (o : ObjectOf ℕ) × (slice_get heap r ≡ Some o)
there_by heap test r h = by (slice_get heap r) refl h
  where
    by : (o : Option (ObjectOf ℕ)) → slice_get heap r ≡ o → option_map_or test o false ≡ true → (x : ObjectOf ℕ) × (slice_get heap r ≡ Some x)
    by None e q = absurd (false≢true q)
    by (Some x) e q = (x, e)

pub receiver_there : (heap : List (ObjectOf ℕ)) (operands : List ℕ) (named : Member) (test : ObjectOf ℕ → Bool)
    → IsReceived heap operands (receiver (parameter_count named) test) → IsReceiverThere heap operands named
receiver_there heap operands named test h r e =
    there_by heap test r (subst (λ w. is_null_or heap test w ≡ true) (refers (slice_index_or operands (parameter_count named) 0) r e) h.fits)

-- ---- what it is over values

module _ (trees : Program) (world : World) where
  abbrev heap : List (ObjectOf ℕ)
  heap = (map_world word_of world).heap

  class_same : (r : ℕ) → its_class world r ≡ class_of_object (object_in heap r)
  class_same r = sym (ap class_of_object (object_at_words world r) ∙ class_words (object_at world r))

  type_same : (r : ℕ) → type_of (object_at world r) ≡ type_of (object_in heap r)
  type_same r = sym (ap type_of (object_at_words world r) ∙ type_words (object_at world r))

  chosen_same : (o p : Option ℕ) (choose other : ℕ → Chosen) → o ≡ p → ((r : ℕ) → choose r ≡ other r) → method_told trees (of_receiver o choose) ≡ method_told trees (of_receiver p other)
  chosen_same o p choose other e same = ap (λ q. method_told trees (of_receiver q choose)) e ∙ by p
    where
      by : (q : Option ℕ) → method_told trees (of_receiver q choose) ≡ method_told trees (of_receiver q other)
      by None = refl
      by (Some r) = ap (method_told trees) (same r)

-- ---- what a call means

module _ (trees : Program) (site : Site) (meaning : MeaningOf Value) where
  either_of : Option Row → Option (MeaningOf Value) → Option (MeaningOf Value)
  either_of (Some row) other = Some (local_meaning values row)
  either_of None other = other

  with_instr : Instr → Option (MeaningOf Value)
  with_instr i = either_of (local_row (integers_of site.body.pool) site.body.code.code site.offset site.next i) (other_meaning values trees site i)

  by_row : (o : Option Row) → local_or values trees site o ≡ either_of o (other_meaning values trees site site.instr)
  unfolding either_of
  by_row (Some row) = refl
  by_row None = refl

  meant : meaning_of values trees site ≡ with_instr site.instr
  unfolding with_instr
  meant = by_row (local_row (integers_of site.body.pool) site.body.code.code site.offset site.next site.instr)

  -- of a method that is found
  pub record FoundFor (look_up : Option Member) (make : Member → MeaningOf Value) : Type 0 where
    pub method : Member
    pub found : look_up ≡ Some method
    pub is : make method ≡ meaning

  found_for : (test : MethodTree → Bool) (o : Option Member) (make : Member → MeaningOf Value) → option_and_then (if_method test trees make) o ≡ Some meaning → FoundFor o make
  found_for test None make e = absurd (none-some meaning e)
  found_for test (Some m) make e = by (is_one test trees m) e
    where
      by : (b : Bool) → (if b then Some (make m) else None) ≡ Some meaning → FoundFor (Some m) make
      by true h = record { method = m; found = refl; is = same_Some (make m) meaning h }
      by false h = absurd (none-some meaning h)

  -- and passes a test
  passes_for : (test : MethodTree → Bool) (o : Option Member) (make : Member → MeaningOf Value) → option_and_then (if_method test trees make) o ≡ Some meaning
      → (m : Member) → o ≡ Some m → is_one test trees m ≡ true
  passes_for test o make e m f = by (is_one test trees m) refl (sym (ap (option_and_then (if_method test trees make)) f) ∙ e)
    where
      by : (b : Bool) → is_one test trees m ≡ b → (if is_one test trees m then Some (make m) else None) ≡ Some meaning → is_one test trees m ≡ true
      by true q h = q
      by false q h = absurd (none-some meaning (sym (ap (λ x. if x then Some (make m) else None) q) ∙ h))

  module _ (means : meaning_of values trees site ≡ Some meaning) (index : ℕ) (named : Member) where
    named_meant : (make : Member → Option (MeaningOf Value)) (o : Option Member) → o ≡ Some named → option_and_then make o ≡ Some meaning → make named ≡ Some meaning
    named_meant make o e h = sym (ap (option_and_then make) e) ∙ h

    virtual_by : (b : Bool) → member_eq named println_int ≡ b → b ≡ false → invoke_virtual_meaning values trees site named ≡ Some meaning
        → FoundFor (find_method trees named) (virtual_call values trees site named.class)
    virtual_by b e f h =
        found_for is_instance_one (find_method trees named) (virtual_call values trees site named.class)
        (sym (ap (λ (x : Bool). if x then Some (println_meaning values site.next) else virtual_of values trees site named) (e ∙ f)) ∙ h)

    pub virtual_is : site.instr ≡ instr.Invoke invocation.Virtual index → method_at site.body.pool index ≡ Some named → member_eq named println_int ≡ false
        → FoundFor (find_method trees named) (virtual_call values trees site named.class)
    unfolding with_instr either_of
    virtual_is i names other =
        virtual_by (member_eq named println_int) refl other
        (named_meant (invoke_virtual_meaning values trees site) (method_at site.body.pool index) names (sym (meant ∙ ap with_instr i) ∙ means))

    pub interface_is : (count last : ℕ) → site.instr ≡ instr.InvokeInterface index count last → interface_method_at site.body.pool index ≡ Some named
        → FoundFor (find_interface_method trees named) (interface_call values trees site named.class)
    unfolding with_instr either_of
    interface_is count last i names =
        found_for is_instance_one (find_interface_method trees named) (interface_call values trees site named.class)
        (named_meant (interface_of values trees site) (interface_method_at site.body.pool index) names (sym (meant ∙ ap with_instr i) ∙ means))

    special_meant : site.instr ≡ instr.Invoke invocation.Special index → method_at site.body.pool index ≡ Some named → special_of values trees site named ≡ Some meaning
    unfolding with_instr either_of
    special_meant i names =
        named_meant (special_of values trees site) (method_at site.body.pool index) names (sym (meant ∙ ap with_instr i) ∙ means)

    abbrev special_by : Bool → Option (MeaningOf Value)
    special_by b =
        if b
        then if_method is_instance_one trees (constructor_call values trees site) named
        else option_and_then (if_method is_instance_one trees (special_call values trees site named.class)) (find_method trees named)

    -- the operand names a method
    unnamed : {A : Type 0} (make : Member → Option (MeaningOf Value)) (o : Option Member) → o ≡ None → option_and_then make o ≡ Some meaning → A
    unnamed make o e h = absurd (none-some meaning (sym (ap (option_and_then make) e) ∙ h))

    pub virtual_names : site.instr ≡ instr.Invoke invocation.Virtual index → method_at site.body.pool index ≡ None → ⊥
    unfolding with_instr either_of
    virtual_names i none = unnamed (invoke_virtual_meaning values trees site) (method_at site.body.pool index) none (sym (meant ∙ ap with_instr i) ∙ means)

    pub special_names : site.instr ≡ instr.Invoke invocation.Special index → method_at site.body.pool index ≡ None → ⊥
    unfolding with_instr either_of
    special_names i none = unnamed (special_of values trees site) (method_at site.body.pool index) none (sym (meant ∙ ap with_instr i) ∙ means)

    pub interface_names : (count last : ℕ) → site.instr ≡ instr.InvokeInterface index count last → interface_method_at site.body.pool index ≡ None → ⊥
    unfolding with_instr either_of
    interface_names count last i none = unnamed (interface_of values trees site) (interface_method_at site.body.pool index) none (sym (meant ∙ ap with_instr i) ∙ means)

    pub static_names : site.instr ≡ instr.Invoke invocation.Static index → method_at site.body.pool index ≡ None → ⊥
    unfolding with_instr either_of
    static_names i none =
        let f = found_for is_static_method (option_and_then (find_method trees) (method_at site.body.pool index)) (static_call values trees site) (sym (meant ∙ ap with_instr i) ∙ means) in
        none-some f.method (sym (ap (option_and_then (find_method trees)) none) ∙ f.found)

    pub static_passes : site.instr ≡ instr.Invoke invocation.Static index → (m : Member) → option_and_then (find_method trees) (method_at site.body.pool index) ≡ Some m
        → is_one is_static_method trees m ≡ true
    unfolding with_instr either_of
    static_passes i m f =
        passes_for is_static_method (option_and_then (find_method trees) (method_at site.body.pool index)) (static_call values trees site) (sym (meant ∙ ap with_instr i) ∙ means) m f

    pub constructor_is : site.instr ≡ instr.Invoke invocation.Special index → method_at site.body.pool index ≡ Some named → name_eq named.name constructor_name ≡ true
        → FoundFor (Some named) (λ m. constructor_call values trees site named)
    constructor_is i names constructs =
        found_for is_instance_one (Some named) (λ m. constructor_call values trees site named) (sym (ap special_by constructs) ∙ special_meant i names)

    pub constructor_there : site.instr ≡ instr.Invoke invocation.Special index → method_at site.body.pool index ≡ Some named → name_eq named.name constructor_name ≡ true
        → is_some (method_of trees named) ≡ true
    constructor_there i names constructs = by (method_of trees named) (sym (ap special_by constructs) ∙ special_meant i names)
      where
        by : (o : Option MethodTree) → (if option_map_or is_instance_one o false then Some (constructor_call values trees site named) else None) ≡ Some meaning → is_some o ≡ true
        by None h = absurd (none-some meaning h)
        by (Some tree) h = refl

    pub special_is : site.instr ≡ instr.Invoke invocation.Special index → method_at site.body.pool index ≡ Some named → name_eq named.name constructor_name ≡ false
        → FoundFor (find_method trees named) (special_call values trees site named.class)
    special_is i names other =
        found_for is_instance_one (find_method trees named) (special_call values trees site named.class) (sym (ap special_by other) ∙ special_meant i names)

-- ---- methods that are called on an object are not static

none_static : (trees : Program) → list_all (passes as_thread_method (refl, (refl, refl)) (λ m b. not (is_one is_static_method trees m && is_on_receiver b))) built_in_methods ≡ true
unfolding built_in_classes
none_static trees = refl

not_static : (trees : Program) (m : Member) (b : ThreadMethod) → as_thread_method (built_in_method m) ≡ Some b → is_one is_static_method trees m ≡ true → is_on_receiver b ≡ true → ⊥
not_static trees m b e static on =
    let fits = passed as_thread_method (refl, (refl, refl)) (λ x c. not (is_one is_static_method trees x && is_on_receiver c)) (none_static trees) m b e in
    false≢true (sym (ap (λ x. not (x && is_on_receiver b)) static ∙ ap not on) ∙ fits)

-- ---- the receiver among the operands

get_last : {A : Type 0} (xs : List A) (x : A) → slice_get (xs ++ x ∷ []) (length xs) ≡ Some x
get_last [] x = refl
get_last (y ∷ xs) x = get_last xs x

module _ (trees : Program) (site : Site) (world : World) (max_stack : ℕ) (slots : Slots Value) (meaning : MeaningOf Value)
    (finds : values.finds trees (types_of world.heap) meaning.wants max_stack slots ≡ true) where
  abbrev operands : List ℕ
  operands = map word_of slots.stack

  abbrev ops : List Value
  ops = ops_of values meaning slots

  place_of : (m : Member) (want : Want) → slice_get (argument_wants trees m (want ∷ [])) (parameter_count m) ≡ Some want
  place_of m want =
      let parameters = parameters_declared m.descriptor in
      let wants = reverse (map (declared_want trees) parameters) in
      subst (λ n. slice_get (wants ++ want ∷ []) n ≡ Some want) (length-reverse (map (declared_want trees) parameters) ∙ length-map parameters (declared_want trees))
      (get_last wants want)

  reads_receiver : (m : Member) (want : Want) (leads : Leads) (choose : World → ℕ → Chosen) → call_on values trees site m (want ∷ []) leads choose ≡ meaning
      → is_object_want want ≡ true → IsReference ops operands (parameter_count m)
  reads_receiver m want leads choose is object =
      let x = call_on values trees site m (want ∷ []) leads choose in
      subst (λ (y : MeaningOf Value). IsReference (ops_of values y slots) operands (parameter_count m)) is
      (reference_is trees world max_stack slots x refl (parameter_count m) want (place_of m want)
      (subst (λ (y : MeaningOf Value). values.finds trees (types_of world.heap) y.wants max_stack slots ≡ true) (sym is) finds) object)

  abbrev built : Option Member → Option ThreadMethod
  built o = option_and_then as_thread_method (option_and_then (λ (m : Member). without_code m (body_of trees m)) o)

  module _ (means : meaning_of values trees site ≡ Some meaning) (index : ℕ) (named : Member) where
    abbrev told : Option ThreadMethod
    told = option_and_then as_thread_method (built_in_run trees site world ops)

    -- ---- invokevirtual

    abbrev virtual_choice : Member → World → ℕ → Chosen
    virtual_choice m other r = selected trees (its_class other r) m

    abbrev virtual_there : Member → ℕ → Chosen
    virtual_there m r = selected trees (class_of_object (object_in (heap trees world) r)) m

    abbrev virtual_found : Option Member → Option ThreadMethod
    virtual_found o = built (option_and_then (λ (m : Member). chosen_on (virtual_choice m) world ops m) o)

    abbrev virtual_called : Option Member → Option ThreadMethod
    virtual_called o = option_and_then (λ (m : Member). run_on trees operands m (virtual_there m)) o

    println_none : (o : Option Member) → find_method trees named ≡ o → member_eq named println_int ≡ true → virtual_found o ≡ virtual_called o
    println_none None e p = refl
    println_none (Some m) e p =
        let d = method_described trees named m e ∙ ap (λ (x : Member). x.descriptor) (members_same named println_int p) in
        let none : receiver_depth m.descriptor ≡ None = ap receiver_depth d in
        never_on trees operands m (virtual_choice m world) (λ r x h. selected_describes trees (its_class world r) m x h) none (referent values ops (parameter_count m))
        ∙ sym (never trees operands m (virtual_there m) (λ r x h. selected_describes trees (class_of_object (object_in (heap trees world) r)) m x h) none)

    virtual_same : FoundFor trees site meaning (find_method trees named) (virtual_call values trees site named.class) → virtual_found (find_method trees named) ≡ virtual_called (find_method trees named)
    virtual_same f =
        ap virtual_found f.found
        ∙ (chosen_same trees world (referent values ops (parameter_count f.method)) (object_under operands (parameter_count f.method)) (virtual_choice f.method world) (virtual_there f.method)
        (reads_receiver f.method (of_named trees named.class) (leads_after trees site f.method) (virtual_choice f.method) f.is refl)
        (λ r. ap (λ c. selected trees c f.method) (class_same trees world r))
        ∙ sym (ap virtual_called f.found))

    pub virtual_told : site.instr ≡ instr.Invoke invocation.Virtual index → method_at site.body.pool index ≡ Some named → told ≡ called_virtual trees (heap trees world) operands named
    virtual_told i names =
        ap built (ap (method_run trees site world ops) i ∙ ap (option_and_then (run_virtual trees world ops)) names) ∙ by (member_eq named println_int) refl
      where
        by : (b : Bool) → member_eq named println_int ≡ b → virtual_found (find_method trees named) ≡ virtual_called (find_method trees named)
        by true e = println_none (find_method trees named) refl e
        by false e = virtual_same (virtual_is trees site meaning means index named i names e)

    -- ---- invokeinterface

    abbrev interface_there : Member → ℕ → Chosen
    interface_there m r =
        if_implements (is_subtype trees (type_of (object_in (heap trees world) r)) (ClassType named.class)) (selected trees (class_of_object (object_in (heap trees world) r)) m)

    abbrev interface_found : Option Member → Option ThreadMethod
    interface_found o = built (option_and_then (λ (m : Member). chosen_on (interface_choice trees named.class m) world ops m) o)

    abbrev interface_called : Option Member → Option ThreadMethod
    interface_called o = option_and_then (λ (m : Member). run_on trees operands m (interface_there m)) o

    interface_same : FoundFor trees site meaning (find_interface_method trees named) (interface_call values trees site named.class)
        → interface_found (find_interface_method trees named) ≡ interface_called (find_interface_method trees named)
    interface_same f =
        ap interface_found f.found
        ∙ (chosen_same trees world (referent values ops (parameter_count f.method)) (object_under operands (parameter_count f.method)) (interface_choice trees named.class f.method world) (interface_there f.method)
        (reads_receiver f.method (of_class trees named.class) (leads_after trees site f.method) (interface_choice trees named.class f.method) f.is refl)
        (λ r.
        ap (λ t. if_implements (is_subtype trees t (ClassType named.class)) (selected trees (its_class world r) f.method)) (type_same trees world r)
        ∙ ap (λ c. if_implements (is_subtype trees (type_of (object_in (heap trees world) r)) (ClassType named.class)) (selected trees c f.method)) (class_same trees world r))
        ∙ sym (ap interface_called f.found))

    pub interface_told : (count last : ℕ) → site.instr ≡ instr.InvokeInterface index count last → interface_method_at site.body.pool index ≡ Some named
        → told ≡ called_interface trees (heap trees world) operands named
    interface_told count last i names =
        ap built (ap (method_run trees site world ops) i ∙ ap (option_and_then (run_interface trees world ops)) names)
        ∙ interface_same (interface_is trees site meaning means index named count last i names)

    -- ---- invokespecial

    abbrev special_choice : Member → World → ℕ → Chosen
    special_choice m other r = selected trees (special_class trees site.method.class named.class) m

    abbrev special_found : Bool → Option Member → Option ThreadMethod
    special_found b o =
        built (if b then chosen_on (λ other r. Runs named) world ops named else option_and_then (λ (m : Member). chosen_on (special_choice m) world ops m) o)

    abbrev special_called : Bool → Option Member → Option ThreadMethod
    special_called b o =
        if b then run_on trees operands named (λ r. Runs named) else option_and_then (λ (m : Member). run_on trees operands m (special_choice m world)) o

    constructor_same : FoundFor trees site meaning (Some named) (λ m. constructor_call values trees site named)
        → special_found true (find_method trees named) ≡ special_called true (find_method trees named)
    constructor_same f =
        chosen_same trees world (referent values ops (parameter_count named)) (object_under operands (parameter_count named)) (λ r. Runs named) (λ r. Runs named)
        (reads_receiver named (AReceiver named.class) (constructed_leads site named) (λ other r. Runs named) f.is refl) (λ r. refl)

    special_same : FoundFor trees site meaning (find_method trees named) (special_call values trees site named.class)
        → special_found false (find_method trees named) ≡ special_called false (find_method trees named)
    special_same f =
        ap (special_found false) f.found
        ∙ (chosen_same trees world (referent values ops (parameter_count f.method)) (object_under operands (parameter_count f.method)) (special_choice f.method world) (special_choice f.method world)
        (reads_receiver f.method (of_class trees site.method.class) (leads_after trees site f.method) (special_choice f.method) f.is refl) (λ r. refl)
        ∙ sym (ap (special_called false) f.found))

    pub special_told : site.instr ≡ instr.Invoke invocation.Special index → method_at site.body.pool index ≡ Some named → told ≡ called_special trees operands site.method.class named
    special_told i names =
        ap built (ap (method_run trees site world ops) i ∙ ap (option_and_then (run_special trees site world ops)) names) ∙ by (name_eq named.name constructor_name) refl
      where
        by : (b : Bool) → name_eq named.name constructor_name ≡ b
            → special_found (name_eq named.name constructor_name) (find_method trees named) ≡ special_called (name_eq named.name constructor_name) (find_method trees named)
        by true e =
            ap (λ b. special_found b (find_method trees named)) e
            ∙ (constructor_same (constructor_is trees site meaning means index named i names e) ∙ sym (ap (λ b. special_called b (find_method trees named)) e))
        by false e =
            ap (λ b. special_found b (find_method trees named)) e
            ∙ (special_same (special_is trees site meaning means index named i names e) ∙ sym (ap (λ b. special_called b (find_method trees named)) e))

    -- ---- invokestatic

    pub static_told : site.instr ≡ instr.Invoke invocation.Static index → method_at site.body.pool index ≡ Some named
        → told ≡ option_and_then (λ (m : Member). method_told trees (Runs m)) (find_method trees named)
    static_told i names =
        ap built (ap (method_run trees site world ops) i ∙ ap (option_and_then (find_method trees)) names) ∙ by (find_method trees named)
      where
        by : (o : Option Member) → built o ≡ option_and_then (λ (m : Member). method_told trees (Runs m)) o
        by None = refl
        by (Some m) = refl

    -- ---- the object on which a method is called that is told

    -- it has no parameters
    no_parameters : (m : Member) (choose : ℕ → Chosen) (o : Option ℕ) (b : ThreadMethod) → ((r : ℕ) (x : Member) → choose r ≡ Runs x → x.descriptor ≡ m.descriptor)
        → method_told trees (of_receiver o choose) ≡ Some b → parameter_count m ≡ 0
    no_parameters m choose o b describes t = by (receiver_depth m.descriptor) refl
      where
        by : (d : Option ℕ) → receiver_depth m.descriptor ≡ d → parameter_count m ≡ 0
        by None e = absurd (none-some b (sym (never_on trees operands m choose describes e o) ∙ t))
        by (Some k) e = counted m.descriptor k (sym e) ∙ depth_is m.descriptor k (sym e)

    at_top : (m : Member) → parameter_count m ≡ 0 → IsReference ops operands (parameter_count m) → IsReference ops operands 0
    at_top m none h = subst (λ n. IsReference ops operands n) none h

    println_never : (o : Option Member) → find_method trees named ≡ o → member_eq named println_int ≡ true → virtual_found o ≡ None
    println_never None e p = refl
    println_never (Some m) e p =
        let d = method_described trees named m e ∙ ap (λ (x : Member). x.descriptor) (members_same named println_int p) in
        never_on trees operands m (virtual_choice m world) (λ r x h. selected_describes trees (its_class world r) m x h) (ap receiver_depth d) (referent values ops (parameter_count m))

    pub virtual_top : site.instr ≡ instr.Invoke invocation.Virtual index → method_at site.body.pool index ≡ Some named → (b : ThreadMethod) → told ≡ Some b → IsReference ops operands 0
    virtual_top i names b t = by (member_eq named println_int) refl
      where
        found : virtual_found (find_method trees named) ≡ Some b
        found = sym (ap built (ap (method_run trees site world ops) i ∙ ap (option_and_then (run_virtual trees world ops)) names)) ∙ t

        by : (x : Bool) → member_eq named println_int ≡ x → IsReference ops operands 0
        by true e = absurd (none-some b (sym (println_never (find_method trees named) refl e) ∙ found))
        by false e =
            let f = virtual_is trees site meaning means index named i names e in
            at_top f.method
            (no_parameters f.method (virtual_choice f.method world) (referent values ops (parameter_count f.method)) b (λ r x h. selected_describes trees (its_class world r) f.method x h)
            (sym (ap virtual_found f.found) ∙ found))
            (reads_receiver f.method (of_named trees named.class) (leads_after trees site f.method) (virtual_choice f.method) f.is refl)

    pub interface_top : (count last : ℕ) → site.instr ≡ instr.InvokeInterface index count last → interface_method_at site.body.pool index ≡ Some named → (b : ThreadMethod) → told ≡ Some b
        → IsReference ops operands 0
    interface_top count last i names b t =
        let found = sym (ap built (ap (method_run trees site world ops) i ∙ ap (option_and_then (run_interface trees world ops)) names)) ∙ t in
        let f = interface_is trees site meaning means index named count last i names in
        at_top f.method
        (no_parameters f.method (interface_choice trees named.class f.method world) (referent values ops (parameter_count f.method)) b
        (λ r x h. implements_describes trees (is_subtype trees (type_of (object_at world r)) (ClassType named.class)) (its_class world r) f.method x h) (sym (ap interface_found f.found) ∙ found))
        (reads_receiver f.method (of_class trees named.class) (leads_after trees site f.method) (interface_choice trees named.class f.method) f.is refl)

    pub special_top : site.instr ≡ instr.Invoke invocation.Special index → method_at site.body.pool index ≡ Some named → (b : ThreadMethod) → told ≡ Some b → IsReference ops operands 0
    special_top i names b t = by (name_eq named.name constructor_name) refl
      where
        found : special_found (name_eq named.name constructor_name) (find_method trees named) ≡ Some b
        found = sym (ap built (ap (method_run trees site world ops) i ∙ ap (option_and_then (run_special trees site world ops)) names)) ∙ t

        by : (x : Bool) → name_eq named.name constructor_name ≡ x → IsReference ops operands 0
        by true e =
            let f = constructor_is trees site meaning means index named i names e in
            at_top named
            (no_parameters named (λ r. Runs named) (referent values ops (parameter_count named)) b (λ r x h. sym (ap (λ (y : Member). y.descriptor) (runs_same named x h)))
            (sym (ap (λ y. special_found y (find_method trees named)) e) ∙ found))
            (reads_receiver named (AReceiver named.class) (constructed_leads site named) (λ other r. Runs named) f.is refl)
        by false e =
            let f = special_is trees site meaning means index named i names e in
            at_top f.method
            (no_parameters f.method (special_choice f.method world) (referent values ops (parameter_count f.method)) b
            (λ r x h. selected_describes trees (special_class trees site.method.class named.class) f.method x h)
            (sym (ap (λ y. special_found y (find_method trees named)) e ∙ ap (special_found false) f.found) ∙ found))
            (reads_receiver f.method (of_class trees site.method.class) (leads_after trees site f.method) (special_choice f.method) f.is refl)

    pub static_off : site.instr ≡ instr.Invoke invocation.Static index → (b : ThreadMethod) → told ≡ Some b → is_on_receiver b ≡ true → ⊥
    static_off i b t on = by (option_and_then (find_method trees) (method_at site.body.pool index)) refl (sym (ap built (ap (method_run trees site world ops) i)) ∙ t)
      where
        own : (m : Member) → is_one is_static_method trees m ≡ true → (o : Option Body) → option_and_then as_thread_method (without_code m o) ≡ Some b → ⊥
        own m static None e = not_static trees m b e static on
        own m static (Some code) e = none-some b e

        by : (o : Option Member) → option_and_then (find_method trees) (method_at site.body.pool index) ≡ o → built o ≡ Some b → ⊥
        by None f e = none-some b e
        by (Some m) f e = own m (static_passes trees site meaning means index named i m f) (body_of trees m) e
