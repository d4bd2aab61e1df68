-- What a call runs on the receiver among its operands, by their words.
use Rattle.std.proofs.Common.{◌≡◌, refl, sym, ap, subst, ◌∙◌, ℕ, zero, suc, List, [], ◌∷◌, ◌++◌, map, length, reverse, Bool, true, false, Option, Some, None, if◌then◌else◌}
use Rattle.std.specs.Prelude.{IsTrue, is_some, slice_get, slice_index_or}
use Rattle.std.specs.Option.{option_and_then, option_map, option_map_or}
use Rattle.std.proofs.lemmas.Bool.{false≢true, true≢false}
use Rattle.std.proofs.lemmas.List.{length-map, length-reverse}
use Rattle.std.proofs.lemmas.Option.{same_Some, none-some}
use Rattle.next_accesses.specs.declared.accessing_calls.AccessingMethod.{AccessingMethod}
use Rattle.model.specs.declared.instr.Instr.{Instr}
use Rattle.model.specs.declared.instr.Instr.TheVariants as instr
use Rattle.model.specs.declared.instr.Invocation.TheVariants as invocation
use Rattle.model.specs.declared.value.Value.{Value}
use Rattle.model.specs.Calls.{Chosen, Fails, Runs, parameter_count, argument_wants, is_one, is_instance_one, if_method, selected, its_class, of_receiver, if_implements, special_class, call_on, of_class, leads_after, constructed_leads, static_call, virtual_call, virtual_of, special_call, constructor_call, special_of, interface_call, interface_of, of_named}
use Rattle.model.specs.Classes.{Program, body_of}
use Rattle.model.specs.DescribedTypes.{declared_want, parameters_declared}
use Rattle.model.specs.Lookup.{method_of, find_method, find_interface_method, is_static_method}
use Rattle.model.specs.Meanings.{meaning_of, local_or, local_meaning, other_meaning, println_meaning, invoke_virtual_meaning}
use Rattle.model.specs.Names.{Name, name_eq, Member, member_eq, constructor_name, println_int}
use Rattle.model.specs.Operands.{Slots, values, word_of, word_reference}
use Rattle.model.specs.Pool.{integers_of, method_at, interface_method_at}
use Rattle.model.specs.ReferenceTypes.{ClassType, is_subtype}
use Rattle.model.specs.Rows.{Row, local_row}
use Rattle.model.specs.Sites.{Leads, MeaningOf, Site, referent}
use Rattle.model.specs.State.{ObjectOf, type_of, types_of, World}
use Rattle.model.specs.Step.{ops_of}
use Rattle.model.specs.Tree.{MethodTree}
use Rattle.model.specs.Types.{Want, AReceiver}
use Rattle.model.specs.Words.{map_world}
use Rattle.model.specs.Worlds.{no_object, object_at, class_of_object}
use Rattle.run_laws.specs.word_operands.Receivers.{Receiver, receiver, receiver_of, has_class_below, is_any, is_null_or, IsReceived}
use Rattle.run_laws.proofs.laws.Classes.{members_same}
use Rattle.run_laws.proofs.laws.WordLists.{is_object_want}
use Rattle.run_laws.proofs.word_runs.WordWorlds.{object_words, object_at_words, class_words, type_words}
use Rattle.data_races.specs.EventActions.{without_code, method_chosen, chosen_on, interface_choice, run_virtual, run_special, run_interface, method_run, built_in_run}
use Rattle.next_accesses.specs.accesses.Accesses.{object_under}
use Rattle.next_accesses.specs.accessing_calls.Called.{as_accessing, accessing_run, accessing_parameters, run_on, object_in, called_virtual, called_interface, called_special, IsReceiverThere}
use Rattle.next_accesses.specs.read_operands.Reads.{IsReference}
use Rattle.next_accesses.proofs.accessing_calls.Named.{method_described, selected_describes, never, never_on}
use Rattle.next_accesses.proofs.read_operands.Reading.{reference_is}

-- ---- a receiver is there

refers : (w r : ℕ) → word_reference w ≡ Some r → w ≡ suc r
refers zero r e = absurd cc
refers (suc n) r e = ap suc (same_Some n r e)

there_by : (heap : List (ObjectOf ℕ)) (test : ObjectOf ℕ → Bool) (r : ℕ) → is_null_or heap test (suc r) ≡ true → (o : ObjectOf ℕ) × (slice_get heap r ≡ Some o)
there_by heap test r h = by (slice_get heap r) refl h
  where
    by : (o : Option (ObjectOf ℕ)) → slice_get heap r ≡ o → option_map_or test o false ≡ true → (x : ObjectOf ℕ) × (slice_get heap r ≡ Some x)
    by None e q = absurd (false≢true q)
    by (Some x) e q = (x, e)

pub receiver_there : (heap : List (ObjectOf ℕ)) (operands : List ℕ) (named : Member) (test : ObjectOf ℕ → Bool)
    → IsReceived heap operands (receiver (parameter_count named) test) → IsReceiverThere heap operands named
receiver_there heap operands named test h r e =
    there_by heap test r (subst (λ w. is_null_or heap test w ≡ true) (refers (slice_index_or operands (parameter_count named) 0) r e) h.fits)

-- ---- what it is over values

module _ (trees : Program) (world : World) where
  abbrev heap : List (ObjectOf ℕ)
  heap = (map_world word_of world).heap

  class_same : (r : ℕ) → its_class world r ≡ class_of_object (object_in heap r)
  class_same r = sym (ap class_of_object (object_at_words world r) ∙ class_words (object_at world r))

  type_same : (r : ℕ) → type_of (object_at world r) ≡ type_of (object_in heap r)
  type_same r = sym (ap type_of (object_at_words world r) ∙ type_words (object_at world r))

  chosen_same : (o p : Option ℕ) (choose other : ℕ → Chosen) → o ≡ p → ((r : ℕ) → choose r ≡ other r) → accessing_run trees (of_receiver o choose) ≡ accessing_run trees (of_receiver p other)
  chosen_same o p choose other e same = ap (λ q. accessing_run trees (of_receiver q choose)) e ∙ by p
    where
      by : (q : Option ℕ) → accessing_run trees (of_receiver q choose) ≡ accessing_run trees (of_receiver q other)
      by None = refl
      by (Some r) = ap (accessing_run trees) (same r)

-- ---- what a call means

module _ (trees : Program) (site : Site) (meaning : MeaningOf Value) where
  either_of : Option Row → Option (MeaningOf Value) → Option (MeaningOf Value)
  either_of (Some row) other = Some (local_meaning values row)
  either_of None other = other

  with_instr : Instr → Option (MeaningOf Value)
  with_instr i = either_of (local_row (integers_of site.body.pool) site.body.code.code site.offset site.next i) (other_meaning values trees site i)

  by_row : (o : Option Row) → local_or values trees site o ≡ either_of o (other_meaning values trees site site.instr)
  unfolding either_of
  by_row (Some row) = refl
  by_row None = refl

  meant : meaning_of values trees site ≡ with_instr site.instr
  unfolding with_instr
  meant = by_row (local_row (integers_of site.body.pool) site.body.code.code site.offset site.next site.instr)

  -- of a method that is found
  pub record FoundFor (look_up : Option Member) (make : Member → MeaningOf Value) : Type 0 where
    pub method : Member
    pub found : look_up ≡ Some method
    pub is : make method ≡ meaning

  found_for : (test : MethodTree → Bool) (o : Option Member) (make : Member → MeaningOf Value) → option_and_then (if_method test trees make) o ≡ Some meaning → FoundFor o make
  found_for test None make e = absurd (none-some meaning e)
  found_for test (Some m) make e = by (is_one test trees m) e
    where
      by : (b : Bool) → (if b then Some (make m) else None) ≡ Some meaning → FoundFor (Some m) make
      by true h = record { method = m; found = refl; is = same_Some (make m) meaning h }
      by false h = absurd (none-some meaning h)

  module _ (means : meaning_of values trees site ≡ Some meaning) (index : ℕ) (named : Member) where
    named_meant : (make : Member → Option (MeaningOf Value)) (o : Option Member) → o ≡ Some named → option_and_then make o ≡ Some meaning → make named ≡ Some meaning
    named_meant make o e h = sym (ap (option_and_then make) e) ∙ h

    virtual_by : (b : Bool) → member_eq named println_int ≡ b → b ≡ false → invoke_virtual_meaning values trees site named ≡ Some meaning
        → FoundFor (find_method trees named) (virtual_call values trees site named.class)
    virtual_by b e f h =
        found_for is_instance_one (find_method trees named) (virtual_call values trees site named.class)
        (sym (ap (λ (x : Bool). if x then Some (println_meaning values site.next) else virtual_of values trees site named) (e ∙ f)) ∙ h)

    pub virtual_is : site.instr ≡ instr.Invoke invocation.Virtual index → method_at site.body.pool index ≡ Some named → member_eq named println_int ≡ false
        → FoundFor (find_method trees named) (virtual_call values trees site named.class)
    unfolding with_instr either_of
    virtual_is i names other =
        virtual_by (member_eq named println_int) refl other
        (named_meant (invoke_virtual_meaning values trees site) (method_at site.body.pool index) names (sym (meant ∙ ap with_instr i) ∙ means))

    pub interface_is : (count last : ℕ) → site.instr ≡ instr.InvokeInterface index count last → interface_method_at site.body.pool index ≡ Some named
        → FoundFor (find_interface_method trees named) (interface_call values trees site named.class)
    unfolding with_instr either_of
    interface_is count last i names =
        found_for is_instance_one (find_interface_method trees named) (interface_call values trees site named.class)
        (named_meant (interface_of values trees site) (interface_method_at site.body.pool index) names (sym (meant ∙ ap with_instr i) ∙ means))

    special_meant : site.instr ≡ instr.Invoke invocation.Special index → method_at site.body.pool index ≡ Some named → special_of values trees site named ≡ Some meaning
    unfolding with_instr either_of
    special_meant i names =
        named_meant (special_of values trees site) (method_at site.body.pool index) names (sym (meant ∙ ap with_instr i) ∙ means)

    abbrev special_by : Bool → Option (MeaningOf Value)
    special_by b =
        if b
        then if_method is_instance_one trees (constructor_call values trees site) named
        else option_and_then (if_method is_instance_one trees (special_call values trees site named.class)) (find_method trees named)

    -- the operand names a method
    unnamed : {A : Type 0} (make : Member → Option (MeaningOf Value)) (o : Option Member) → o ≡ None → option_and_then make o ≡ Some meaning → A
    unnamed make o e h = absurd (none-some meaning (sym (ap (option_and_then make) e) ∙ h))

    pub virtual_names : site.instr ≡ instr.Invoke invocation.Virtual index → method_at site.body.pool index ≡ None → ⊥
    unfolding with_instr either_of
    virtual_names i none = unnamed (invoke_virtual_meaning values trees site) (method_at site.body.pool index) none (sym (meant ∙ ap with_instr i) ∙ means)

    pub special_names : site.instr ≡ instr.Invoke invocation.Special index → method_at site.body.pool index ≡ None → ⊥
    unfolding with_instr either_of
    special_names i none = unnamed (special_of values trees site) (method_at site.body.pool index) none (sym (meant ∙ ap with_instr i) ∙ means)

    pub interface_names : (count last : ℕ) → site.instr ≡ instr.InvokeInterface index count last → interface_method_at site.body.pool index ≡ None → ⊥
    unfolding with_instr either_of
    interface_names count last i none = unnamed (interface_of values trees site) (interface_method_at site.body.pool index) none (sym (meant ∙ ap with_instr i) ∙ means)

    -- a static method needs its class
    pub static_looks : site.instr ≡ instr.Invoke invocation.Static index → meaning.looks ≡ None → ⊥
    unfolding with_instr either_of
    static_looks i none =
        let f = found_for is_static_method (option_and_then (find_method trees) (method_at site.body.pool index)) (static_call values trees site) (sym (meant ∙ ap with_instr i) ∙ means) in
        none-some f.method.class (sym none ∙ sym (ap (λ (m : MeaningOf Value). m.looks) f.is))

    pub constructor_is : site.instr ≡ instr.Invoke invocation.Special index → method_at site.body.pool index ≡ Some named → name_eq named.name constructor_name ≡ true
        → FoundFor (Some named) (λ m. constructor_call values trees site named)
    constructor_is i names constructs =
        found_for is_instance_one (Some named) (λ m. constructor_call values trees site named) (sym (ap special_by constructs) ∙ special_meant i names)

    pub constructor_there : site.instr ≡ instr.Invoke invocation.Special index → method_at site.body.pool index ≡ Some named → name_eq named.name constructor_name ≡ true
        → is_some (method_of trees named) ≡ true
    constructor_there i names constructs = by (method_of trees named) (sym (ap special_by constructs) ∙ special_meant i names)
      where
        by : (o : Option MethodTree) → (if option_map_or is_instance_one o false then Some (constructor_call values trees site named) else None) ≡ Some meaning → is_some o ≡ true
        by None h = absurd (none-some meaning h)
        by (Some tree) h = refl

    pub special_is : site.instr ≡ instr.Invoke invocation.Special index → method_at site.body.pool index ≡ Some named → name_eq named.name constructor_name ≡ false
        → FoundFor (find_method trees named) (special_call values trees site named.class)
    special_is i names other =
        found_for is_instance_one (find_method trees named) (special_call values trees site named.class) (sym (ap special_by other) ∙ special_meant i names)

-- ---- the receiver among the operands

get_last : {A : Type 0} (xs : List A) (x : A) → slice_get (xs ++ x ∷ []) (length xs) ≡ Some x
get_last [] x = refl
get_last (y ∷ xs) x = get_last xs x

module _ (trees : Program) (site : Site) (world : World) (max_stack : ℕ) (slots : Slots Value) (meaning : MeaningOf Value)
    (finds : values.finds trees (types_of world.heap) meaning.wants max_stack slots ≡ true) where
  abbrev operands : List ℕ
  operands = map word_of slots.stack

  abbrev ops : List Value
  ops = ops_of values meaning slots

  place_of : (m : Member) (want : Want) → slice_get (argument_wants trees m (want ∷ [])) (parameter_count m) ≡ Some want
  place_of m want =
      let parameters = parameters_declared m.descriptor in
      let wants = reverse (map (declared_want trees) parameters) in
      subst (λ n. slice_get (wants ++ want ∷ []) n ≡ Some want) (length-reverse (map (declared_want trees) parameters) ∙ length-map parameters (declared_want trees))
      (get_last wants want)

  reads_receiver : (m : Member) (want : Want) (leads : Leads) (choose : World → ℕ → Chosen) → call_on values trees site m (want ∷ []) leads choose ≡ meaning
      → is_object_want want ≡ true → IsReference ops operands (parameter_count m)
  reads_receiver m want leads choose is object =
      let x = call_on values trees site m (want ∷ []) leads choose in
      subst (λ (y : MeaningOf Value). IsReference (ops_of values y slots) operands (parameter_count m)) is
      (reference_is trees world max_stack slots x refl (parameter_count m) want (place_of m want)
      (subst (λ (y : MeaningOf Value). values.finds trees (types_of world.heap) y.wants max_stack slots ≡ true) (sym is) finds) object)

  abbrev built : Option Member → Option AccessingMethod
  built o = option_and_then as_accessing (option_and_then (λ (m : Member). without_code m (body_of trees m)) o)

  module _ (means : meaning_of values trees site ≡ Some meaning) (index : ℕ) (named : Member) where
    abbrev told : Option AccessingMethod
    told = option_and_then as_accessing (built_in_run trees site world ops)

    -- ---- invokevirtual

    abbrev virtual_choice : Member → World → ℕ → Chosen
    virtual_choice m other r = selected trees (its_class other r) m

    abbrev virtual_there : Member → ℕ → Chosen
    virtual_there m r = selected trees (class_of_object (object_in (heap trees world) r)) m

    abbrev virtual_found : Option Member → Option AccessingMethod
    virtual_found o = built (option_and_then (λ (m : Member). chosen_on (virtual_choice m) world ops m) o)

    abbrev virtual_called : Option Member → Option AccessingMethod
    virtual_called o = option_and_then (λ (m : Member). run_on trees operands m (virtual_there m)) o

    println_none : (o : Option Member) → find_method trees named ≡ o → member_eq named println_int ≡ true → virtual_found o ≡ virtual_called o
    println_none None e p = refl
    println_none (Some m) e p =
        let d = method_described trees named m e ∙ ap (λ (x : Member). x.descriptor) (members_same named println_int p) in
        let none : accessing_parameters m.descriptor ≡ None = ap accessing_parameters d in
        never_on trees operands m (virtual_choice m world) (λ r x h. selected_describes trees (its_class world r) m x h) none (referent values ops (parameter_count m))
        ∙ sym (never trees operands m (virtual_there m) (λ r x h. selected_describes trees (class_of_object (object_in (heap trees world) r)) m x h) none)

    virtual_same : FoundFor trees site meaning (find_method trees named) (virtual_call values trees site named.class) → virtual_found (find_method trees named) ≡ virtual_called (find_method trees named)
    virtual_same f =
        ap virtual_found f.found
        ∙ (chosen_same trees world (referent values ops (parameter_count f.method)) (object_under operands (parameter_count f.method)) (virtual_choice f.method world) (virtual_there f.method)
        (reads_receiver f.method (of_named trees named.class) (leads_after trees site f.method) (virtual_choice f.method) f.is refl)
        (λ r. ap (λ c. selected trees c f.method) (class_same trees world r))
        ∙ sym (ap virtual_called f.found))

    pub virtual_told : site.instr ≡ instr.Invoke invocation.Virtual index → method_at site.body.pool index ≡ Some named → told ≡ called_virtual trees (heap trees world) operands named
    virtual_told i names =
        ap built (ap (method_run trees site world ops) i ∙ ap (option_and_then (run_virtual trees world ops)) names) ∙ by (member_eq named println_int) refl
      where
        by : (b : Bool) → member_eq named println_int ≡ b → virtual_found (find_method trees named) ≡ virtual_called (find_method trees named)
        by true e = println_none (find_method trees named) refl e
        by false e = virtual_same (virtual_is trees site meaning means index named i names e)

    -- ---- invokeinterface

    abbrev interface_there : Member → ℕ → Chosen
    interface_there m r =
        if_implements (is_subtype trees (type_of (object_in (heap trees world) r)) (ClassType named.class)) (selected trees (class_of_object (object_in (heap trees world) r)) m)

    abbrev interface_found : Option Member → Option AccessingMethod
    interface_found o = built (option_and_then (λ (m : Member). chosen_on (interface_choice trees named.class m) world ops m) o)

    abbrev interface_called : Option Member → Option AccessingMethod
    interface_called o = option_and_then (λ (m : Member). run_on trees operands m (interface_there m)) o

    interface_same : FoundFor trees site meaning (find_interface_method trees named) (interface_call values trees site named.class)
        → interface_found (find_interface_method trees named) ≡ interface_called (find_interface_method trees named)
    interface_same f =
        ap interface_found f.found
        ∙ (chosen_same trees world (referent values ops (parameter_count f.method)) (object_under operands (parameter_count f.method)) (interface_choice trees named.class f.method world) (interface_there f.method)
        (reads_receiver f.method (of_class trees named.class) (leads_after trees site f.method) (interface_choice trees named.class f.method) f.is refl)
        (λ r.
        ap (λ t. if_implements (is_subtype trees t (ClassType named.class)) (selected trees (its_class world r) f.method)) (type_same trees world r)
        ∙ ap (λ c. if_implements (is_subtype trees (type_of (object_in (heap trees world) r)) (ClassType named.class)) (selected trees c f.method)) (class_same trees world r))
        ∙ sym (ap interface_called f.found))

    pub interface_told : (count last : ℕ) → site.instr ≡ instr.InvokeInterface index count last → interface_method_at site.body.pool index ≡ Some named
        → told ≡ called_interface trees (heap trees world) operands named
    interface_told count last i names =
        ap built (ap (method_run trees site world ops) i ∙ ap (option_and_then (run_interface trees world ops)) names)
        ∙ interface_same (interface_is trees site meaning means index named count last i names)

    -- ---- invokespecial

    abbrev special_choice : Member → World → ℕ → Chosen
    special_choice m other r = selected trees (special_class trees site.method.class named.class) m

    abbrev special_found : Bool → Option Member → Option AccessingMethod
    special_found b o =
        built (if b then chosen_on (λ other r. Runs named) world ops named else option_and_then (λ (m : Member). chosen_on (special_choice m) world ops m) o)

    abbrev special_called : Bool → Option Member → Option AccessingMethod
    special_called b o =
        if b then run_on trees operands named (λ r. Runs named) else option_and_then (λ (m : Member). run_on trees operands m (special_choice m world)) o

    constructor_same : FoundFor trees site meaning (Some named) (λ m. constructor_call values trees site named)
        → special_found true (find_method trees named) ≡ special_called true (find_method trees named)
    constructor_same f =
        chosen_same trees world (referent values ops (parameter_count named)) (object_under operands (parameter_count named)) (λ r. Runs named) (λ r. Runs named)
        (reads_receiver named (AReceiver named.class) (constructed_leads site named) (λ other r. Runs named) f.is refl) (λ r. refl)

    special_same : FoundFor trees site meaning (find_method trees named) (special_call values trees site named.class)
        → special_found false (find_method trees named) ≡ special_called false (find_method trees named)
    special_same f =
        ap (special_found false) f.found
        ∙ (chosen_same trees world (referent values ops (parameter_count f.method)) (object_under operands (parameter_count f.method)) (special_choice f.method world) (special_choice f.method world)
        (reads_receiver f.method (of_class trees site.method.class) (leads_after trees site f.method) (special_choice f.method) f.is refl) (λ r. refl)
        ∙ sym (ap (special_called false) f.found))

    pub special_told : site.instr ≡ instr.Invoke invocation.Special index → method_at site.body.pool index ≡ Some named → told ≡ called_special trees operands site.method.class named
    special_told i names =
        ap built (ap (method_run trees site world ops) i ∙ ap (option_and_then (run_special trees site world ops)) names) ∙ by (name_eq named.name constructor_name) refl
      where
        by : (b : Bool) → name_eq named.name constructor_name ≡ b
            → special_found (name_eq named.name constructor_name) (find_method trees named) ≡ special_called (name_eq named.name constructor_name) (find_method trees named)
        by true e =
            ap (λ b. special_found b (find_method trees named)) e
            ∙ (constructor_same (constructor_is trees site meaning means index named i names e) ∙ sym (ap (λ b. special_called b (find_method trees named)) e))
        by false e =
            ap (λ b. special_found b (find_method trees named)) e
            ∙ (special_same (special_is trees site meaning means index named i names e) ∙ sym (ap (λ b. special_called b (find_method trees named)) e))
