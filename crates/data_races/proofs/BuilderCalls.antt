-- Calls of methods without code that access variables, as those of StringBuilder: what such an instruction does, and in which worlds it
-- does the same.
use Rattle.std.proofs.Common.{◌≡◌, refl, sym, ◌∙◌, ap, subst, ℕ, List, [], ◌∷◌}
use Rattle.std.specs.Prelude.{Option, Some, None, Bool, true, false, not, ◌&&◌, ◌==◌, if◌then◌else◌}
use Rattle.std.specs.Option.{option_and_then, option_map_or, option_or}
use Rattle.std.specs.List.{list_all}
use Rattle.std.proofs.lemmas.Bool.{false≢true, and_parts, not-true}
use Rattle.std.proofs.lemmas.Option.{same_Some, none-some}
use Rattle.model.specs.declared.event.Event.{Event}
use Rattle.model.specs.declared.instr.Instr.{Instr}
use Rattle.model.specs.declared.instr.Instr.TheVariants as instr
use Rattle.model.specs.declared.instr.Invocation.TheVariants as invocation
use Rattle.model.specs.declared.value.Value.{Value}
use Rattle.model.specs.AccessFlags.{is_static_method}
use Rattle.model.specs.BuiltIn.{built_in_classes}
use Rattle.model.specs.BuiltInMethods.{BuiltInMethod, ObjectClone, StringWrites, StringBuilderBuilds, built_in_may, built_in_methods, built_in_method}
use Rattle.model.specs.Calls.{Chosen, Fails, Runs, parameter_count, is_one, is_instance_one, if_method, if_concrete, selected, its_class, of_receiver, if_implements, special_class, call_on, of_class, of_named, leads_after, constructed_leads, static_call, virtual_call, virtual_of, special_call, constructor_call, special_of, interface_call, interface_of}
use Rattle.model.specs.Classes.{Program, Body, body_of, lineage, all_superinterfaces}
use Rattle.model.specs.Lookup.{method_of, where_so, in_class, first_found, method_in_class, any_method, searched_class, find_method, find_interface_method, is_selectable, select, is_private_method, is_abstract_method}
use Rattle.model.specs.Meanings.{meaning_of, local_or, local_meaning, other_meaning, println_meaning, invoke_virtual_meaning}
use Rattle.model.specs.Names.{Name, name_eq, Member, member_eq, constructor_name, java_lang_object, println_int}
use Rattle.model.specs.Operands.{Carrier, values}
use Rattle.model.specs.Outcomes.{AbstractMethod}
use Rattle.model.specs.Pool.{integers_of, method_at, interface_method_at}
use Rattle.model.specs.ReferenceTypes.{ReferenceType, ClassType, PrimitiveArray, ReferenceArray, is_subtype}
use Rattle.model.specs.Rows.{Row, local_row}
use Rattle.model.specs.Sites.{Leads, MeaningOf, Site, referent}
use Rattle.model.specs.State.{ObjectOf, Instance, Primitives, References, Characters, type_of, World, WorldOf}
use Rattle.model.specs.Tree.{MethodTree}
use Rattle.model.specs.Types.{Want, AReceiver}
use Rattle.model.specs.Worlds.{object_at, class_of_object}
use Rattle.run_laws.proofs.laws.Classes.{members_same}
use Rattle.run_laws.proofs.laws.WordLists.{is_object_want}
use Rattle.run_laws.proofs.word_runs.WordBuiltIns.{passes, passed}
use Rattle.data_races.specs.EventActions.{method_chosen, chosen_on, interface_choice, run_virtual, run_special, run_interface, method_run, without_code, built_in_run}

-- ---- the rows of these methods

-- a method that may access a variable
abbrev pub accessing_method : BuiltInMethod → Option BuiltInMethod
accessing_method (StringBuilderBuilds method) = Some (StringBuilderBuilds method)
accessing_method (StringWrites method) = Some (StringWrites method)
accessing_method ObjectClone = Some ObjectClone
accessing_method _ = None

-- none is static, and none has the descriptor of println of an int
abbrev fits : Program → Member → BuiltInMethod → Bool
fits files method b = not (is_one is_static_method files method) && not (name_eq method.descriptor println_int.descriptor)

all_fit : (files : Program) → list_all (passes accessing_method (refl, (refl, refl)) (fits files)) built_in_methods ≡ true
unfolding built_in_classes
all_fit files = refl

record Fits (files : Program) (method : Member) : Type 0 where
  instance : is_one is_static_method files method ≡ false
  other : name_eq method.descriptor println_int.descriptor ≡ false

fitting : (files : Program) (method : Member) (b : BuiltInMethod) → accessing_method (built_in_method method) ≡ Some b → Fits files method
fitting files method b e =
    let here = and_parts (not (is_one is_static_method files method)) (not (name_eq method.descriptor println_int.descriptor)) (passed accessing_method (refl, (refl, refl)) (fits files) (all_fit files) method b e) in
    record { instance = not-true (is_one is_static_method files method) here.0; other = not-true (name_eq method.descriptor println_int.descriptor) here.1 }

-- it asks for nothing but its pick
pub may_at_once : {A : Type 0} (C : Carrier A) (b m : BuiltInMethod) → accessing_method b ≡ Some m → (event : Event) (world : WorldOf A) (ops : List A)
    → built_in_may C b event world ops ≡ (event.pick == 0)
may_at_once C (StringBuilderBuilds method) m e event world ops = refl
may_at_once C (StringWrites method) m e event world ops = refl
may_at_once C ObjectClone m e event world ops = refl
may_at_once C _ m e event world ops = absurd (none-some m e)

-- ---- what is found has the descriptor that is sought

module _ (files : Program) (m : Member) where
  where_described : (b : Bool) (class : Name) (x : Member) → where_so b (in_class class m) ≡ Some x → x.descriptor ≡ m.descriptor
  where_described true class x e = sym (ap (λ (y : Member). y.descriptor) (same_Some (in_class class m) x e))
  where_described false class x e = absurd (none-some x e)

  or_described : (o p : Option Member) (x : Member) → (o ≡ Some x → x.descriptor ≡ m.descriptor) → (p ≡ Some x → x.descriptor ≡ m.descriptor)
      → option_or o p ≡ Some x → x.descriptor ≡ m.descriptor
  or_described None p x f g e = g e
  or_described (Some y) p x f g e = f e

  first_described : (wanted : MethodTree → Bool) (classes : List Name) (x : Member) → first_found (method_in_class files wanted m) classes ≡ Some x
      → x.descriptor ≡ m.descriptor
  first_described wanted [] x e = absurd (none-some x e)
  first_described wanted (c ∷ cs) x e =
      or_described (method_in_class files wanted m c) (first_found (method_in_class files wanted m) cs) x
      (where_described (option_map_or wanted (method_of files (in_class c m)) false) c x) (first_described wanted cs x) e

  found_described : (x : Member) → find_method files m ≡ Some x → x.descriptor ≡ m.descriptor
  found_described x e =
      or_described (first_found (method_in_class files any_method m) (lineage files (searched_class m.class))) (first_found (method_in_class files any_method m) (all_superinterfaces files (searched_class m.class))) x
      (first_described any_method (lineage files (searched_class m.class)) x) (first_described any_method (all_superinterfaces files (searched_class m.class)) x) e

runs_same : (m n : Member) → Runs m ≡ Runs n → m ≡ n
runs_same m n e = cc

fails_runs : {A : Type 0} (chosen : Chosen) (n : Member) → method_chosen chosen ≡ None → chosen ≡ Runs n → A
fails_runs (Fails fault) n e h = absurd (cc)
fails_runs (Runs m) n e h = absurd (none-some m (sym e))

module _ (files : Program) (m : Member) where
  concrete_described : (o : Option Member) (x : Member) → (o ≡ Some x → x.descriptor ≡ m.descriptor) → if_concrete files o ≡ Runs x → x.descriptor ≡ m.descriptor
  concrete_described None x f e = absurd (cc)
  concrete_described (Some y) x f e = by (is_one is_abstract_method files y) e
    where
      by : (b : Bool) → (if b then Fails AbstractMethod else Runs y) ≡ Runs x → x.descriptor ≡ m.descriptor
      by true h = absurd (cc)
      by false h = f (ap Some (runs_same y x h))

  selected_described : (class : Name) (x : Member) → selected files class m ≡ Runs x → x.descriptor ≡ m.descriptor
  selected_described class x e = by (is_one is_private_method files m) e
    where
      by : (b : Bool) → (if b then Runs m else if_concrete files (select files class m)) ≡ Runs x → x.descriptor ≡ m.descriptor
      by true h = sym (ap (λ (y : Member). y.descriptor) (runs_same m x h))
      by false h = concrete_described (select files class m) x (first_described files m is_selectable (lineage files class) x) h

  implements_described : (b : Bool) (class : Name) (x : Member) → if_implements b (selected files class m) ≡ Runs x → x.descriptor ≡ m.descriptor
  implements_described true class x e = selected_described class x e
  implements_described false class x e = absurd (cc)

-- ---- the type of an object tells its class

class_of_type : ReferenceType → Name
class_of_type (ClassType class) = class
class_of_type (PrimitiveArray of) = java_lang_object
class_of_type (ReferenceArray of) = java_lang_object

class_is : (o : ObjectOf Value) → class_of_object o ≡ class_of_type (type_of o)
unfolding class_of_type
class_is (Instance class fields) = refl
class_is (Primitives of elements) = refl
class_is (References of elements) = refl
class_is (Characters text) = refl

same_class : (world other : World) (r : ℕ) → type_of (object_at other r) ≡ type_of (object_at world r) → its_class other r ≡ its_class world r
same_class world other r e = class_is (object_at other r) ∙ (ap class_of_type e ∙ sym (class_is (object_at world r)))

-- ---- calls on a receiver

pub record IsCallOn (files : Program) (site : Site) (meaning : MeaningOf Value) : Type 0 where
  pub method : Member
  pub receiver : Want
  pub leads : Leads
  pub choose : World → ℕ → Chosen
  pub is : meaning ≡ call_on values files site method (receiver ∷ []) leads choose
  pub object : is_object_want receiver ≡ true
  pub chooses : (world : World) (ops : List Value) → method_run files site world ops site.instr ≡ chosen_on choose world ops method
  -- the method that it runs has the descriptor of the one that it names, and the type of the receiver tells which it is
  pub describes : (world : World) (r : ℕ) (m : Member) → choose world r ≡ Runs m → m.descriptor ≡ method.descriptor
  pub by_type : (world other : World) (r : ℕ) → type_of (object_at other r) ≡ type_of (object_at world r) → choose other r ≡ choose world r

-- the instruction runs such a method
pub record Builds (files : Program) (site : Site) (world : World) (ops : List Value) (b : BuiltInMethod) : Type 0 where
  pub runs : built_in_run files site world ops ≡ Some b
  pub accesses : accessing_method b ≡ Some b

-- it is a call on a receiver, or it never runs such a method
pub data Calling (files : Program) (site : Site) (meaning : MeaningOf Value) : Type 0 where
  CallsOn : IsCallOn files site meaning → Calling files site meaning
  BuildsNone : ((world : World) (ops : List Value) (b : BuiltInMethod) → Builds files site world ops b → ⊥) → Calling files site meaning

-- the method that is run, where it is such a method
pub record RunsBuilder (files : Program) (b : BuiltInMethod) (run : Option Member) : Type 0 where
  pub method : Member
  pub runs : run ≡ Some method
  pub no_code : body_of files method ≡ None
  pub is : built_in_method method ≡ b

pub runs_builder : (files : Program) (b : BuiltInMethod) (run : Option Member)
    → option_and_then (λ (method : Member). without_code method (body_of files method)) run ≡ Some b → RunsBuilder files b run
runs_builder files b None e = absurd (none-some _ e)
runs_builder files b (Some method) e = by (body_of files method) refl e
  where
    by : (o : Option Body) → body_of files method ≡ o → without_code method o ≡ Some b → RunsBuilder files b (Some method)
    by None q h = record { method = method; runs = refl; no_code = q; is = same_Some (built_in_method method) b h }
    by (Some body) q h = absurd (none-some _ h)

pub chosen_runs : (chosen : Chosen) (m : Member) → method_chosen chosen ≡ Some m → chosen ≡ Runs m
chosen_runs (Fails fault) m e = absurd (none-some m e)
chosen_runs (Runs n) m e = ap Runs (same_Some n m e)

pub on_receiver : (o : Option ℕ) (choose : ℕ → Chosen) (m : Member) → of_receiver o choose ≡ Runs m → (r : ℕ) × (o ≡ Some r) × (choose r ≡ Runs m)
on_receiver None choose m e = absurd (cc)
on_receiver (Some r) choose m e = (r, refl, e)

module _ (files : Program) (site : Site) where
  abbrev run_at : World → List Value → Option Member
  run_at world ops = method_run files site world ops site.instr

  -- ---- instructions that call nothing

  is_call : Instr → Bool
  is_call (instr.Invoke how index) = true
  is_call (instr.InvokeInterface index count last) = true
  is_call _ = false

  no_call : (i : Instr) → is_call i ≡ false → (world : World) (ops : List Value) → method_run files site world ops i ≡ None
  unfolding is_call
  no_call (instr.Invoke how index) e world ops = absurd (false≢true (sym e))
  no_call (instr.InvokeInterface index count last) e world ops = absurd (false≢true (sym e))
  no_call _ e world ops = refl

  builds_none : (world : World) (ops : List Value) (b : BuiltInMethod) → run_at world ops ≡ None → Builds files site world ops b → ⊥
  builds_none world ops b e h = none-some _ (sym (ap (option_and_then (λ (method : Member). without_code method (body_of files method))) e) ∙ h.runs)

  -- ---- by what it names

  if_call : (test : MethodTree → Bool) (make : Member → MeaningOf Value) (o : Option Member) (meaning : MeaningOf Value)
      → ((m : Member) → o ≡ Some m → is_one test files m ≡ true → Calling files site (make m)) → option_and_then (if_method test files make) o ≡ Some meaning
      → Calling files site meaning
  if_call test make None meaning each e = absurd (none-some meaning e)
  if_call test make (Some m) meaning each e = by (is_one test files m) refl e
    where
      by : (b : Bool) → is_one test files m ≡ b → (if b then Some (make m) else None) ≡ Some meaning → Calling files site meaning
      by true q h = subst (λ x. Calling files site x) (same_Some (make m) meaning h) (each m refl q)
      by false q h = absurd (none-some meaning h)

  module _ (index : ℕ) (named : Member) (names : method_at site.body.pool index ≡ Some named) where
    virtual_runs : site.instr ≡ instr.Invoke invocation.Virtual index → (world : World) (ops : List Value) → run_at world ops ≡ run_virtual files world ops named
    virtual_runs i world ops = ap (method_run files site world ops) i ∙ ap (option_and_then (run_virtual files world ops)) names

    println_case : site.instr ≡ instr.Invoke invocation.Virtual index → member_eq named println_int ≡ true
        → (world : World) (ops : List Value) (b : BuiltInMethod) → Builds files site world ops b → ⊥
    println_case i e world ops b h =
        let r = runs_builder files b (run_at world ops) h.runs in
        by r (find_method files named) refl (sym (virtual_runs i world ops) ∙ r.runs)
      where
        by : (r : RunsBuilder files b (run_at world ops)) → (o : Option Member) → find_method files named ≡ o
            → option_and_then (λ (method : Member). chosen_on (λ other s. selected files (its_class other s) method) world ops method) o ≡ Some r.method → ⊥
        by r None q g = none-some _ g
        by r (Some method) q g =
            let c = on_receiver (referent values ops (parameter_count method)) (λ s. selected files (its_class world s) method) r.method (chosen_runs _ r.method g) in
            let d = selected_described files method (its_class world c.0) r.method c.2 ∙ found_described files named method q in
            let same = d ∙ ap (λ (m : Member). m.descriptor) (members_same named println_int e) in
            false≢true (sym (fitting files r.method b (ap accessing_method r.is ∙ h.accesses)).other ∙ (ap (λ (x : Name). name_eq x println_int.descriptor) same ∙ refl))

    virtual_case : site.instr ≡ instr.Invoke invocation.Virtual index → (meaning : MeaningOf Value) → invoke_virtual_meaning values files site named ≡ Some meaning
        → Calling files site meaning
    virtual_case i meaning e = by (member_eq named println_int) refl e
      where
        call : (m : Member) → find_method files named ≡ Some m → is_one is_instance_one files m ≡ true → Calling files site (virtual_call values files site named.class m)
        call m q passes =
            CallsOn (record {
              method = m;
              receiver = of_named files named.class;
              leads = leads_after files site m;
              choose = λ world r. selected files (its_class world r) m;
              is = refl;
              object = refl;
              chooses = λ world ops.
                  virtual_runs i world ops ∙ ap (option_and_then (λ (method : Member). chosen_on (λ other r. selected files (its_class other r) method) world ops method)) q;
              describes = λ world r x h. selected_described files m (its_class world r) x h;
              by_type = λ world other r h. ap (λ class. selected files class m) (same_class world other r h);
            })

        by : (b : Bool) → member_eq named println_int ≡ b → (if b then Some (println_meaning values site.next) else virtual_of values files site named) ≡ Some meaning
            → Calling files site meaning
        by true q h = BuildsNone (println_case i q)
        by false q h = if_call is_instance_one (virtual_call values files site named.class) (find_method files named) meaning call h

    abbrev special_by : World → List Value → Bool → Option Member
    special_by world ops b =
        if b
        then chosen_on (λ other r. Runs named) world ops named
        else option_and_then (λ (method : Member). chosen_on (λ other r. selected files (special_class files site.method.class named.class) method) world ops method) (find_method files named)

    special_runs : site.instr ≡ instr.Invoke invocation.Special index → (b : Bool) → name_eq named.name constructor_name ≡ b
        → (world : World) (ops : List Value) → run_at world ops ≡ special_by world ops b
    special_runs i b e world ops =
        ap (method_run files site world ops) i ∙ (ap (option_and_then (run_special files site world ops)) names ∙ ap (special_by world ops) e)

    special_case : site.instr ≡ instr.Invoke invocation.Special index → (meaning : MeaningOf Value) → special_of values files site named ≡ Some meaning
        → Calling files site meaning
    special_case i meaning e = by (name_eq named.name constructor_name) refl e
      where
        construct : name_eq named.name constructor_name ≡ true → Calling files site (constructor_call values files site named)
        construct q =
            CallsOn (record {
              method = named;
              receiver = AReceiver named.class;
              leads = constructed_leads site named;
              choose = λ world r. Runs named;
              is = refl;
              object = refl;
              chooses = special_runs i true q;
              describes = λ world r x h. sym (ap (λ (y : Member). y.descriptor) (runs_same named x h));
              by_type = λ world other r h. refl;
            })

        call : name_eq named.name constructor_name ≡ false → (m : Member) → find_method files named ≡ Some m → is_one is_instance_one files m ≡ true
            → Calling files site (special_call values files site named.class m)
        call q m found passes =
            CallsOn (record {
              method = m;
              receiver = of_class files site.method.class;
              leads = leads_after files site m;
              choose = λ world r. selected files (special_class files site.method.class named.class) m;
              is = refl;
              object = refl;
              chooses = λ world ops.
                  special_runs i false q world ops
                  ∙ ap (option_and_then (λ (method : Member). chosen_on (λ other r. selected files (special_class files site.method.class named.class) method) world ops method)) found;
              describes = λ world r x h. selected_described files m (special_class files site.method.class named.class) x h;
              by_type = λ world other r h. refl;
            })

        by : (b : Bool) → name_eq named.name constructor_name ≡ b
            → (if b then if_method is_instance_one files (constructor_call values files site) named else option_and_then (if_method is_instance_one files (special_call values files site named.class)) (find_method files named)) ≡ Some meaning
            → Calling files site meaning
        by true q h = if_call is_instance_one (λ m. constructor_call values files site named) (Some named) meaning (λ m same passes. construct q) h
        by false q h = if_call is_instance_one (special_call values files site named.class) (find_method files named) meaning (call q) h

  static_case : (index : ℕ) → site.instr ≡ instr.Invoke invocation.Static index → (m : Member) → option_and_then (find_method files) (method_at site.body.pool index) ≡ Some m
      → is_one is_static_method files m ≡ true → (meaning : MeaningOf Value) → Calling files site meaning
  static_case index i m found static meaning =
      BuildsNone (λ world ops b h.
      let r = runs_builder files b (run_at world ops) h.runs in
      let same = same_Some m r.method (sym found ∙ (sym (ap (method_run files site world ops) i) ∙ r.runs)) in
      false≢true (sym (fitting files r.method b (ap accessing_method r.is ∙ h.accesses)).instance ∙ (ap (λ (x : Member). is_one is_static_method files x) (sym same) ∙ static)))

  interface_case : (index count last : ℕ) (named : Member) → interface_method_at site.body.pool index ≡ Some named
      → site.instr ≡ instr.InvokeInterface index count last → (meaning : MeaningOf Value) → interface_of values files site named ≡ Some meaning → Calling files site meaning
  interface_case index count last named names i meaning e = if_call is_instance_one (interface_call values files site named.class) (find_interface_method files named) meaning call e
    where
      call : (m : Member) → find_interface_method files named ≡ Some m → is_one is_instance_one files m ≡ true → Calling files site (interface_call values files site named.class m)
      call m found passes =
          CallsOn (record {
            method = m;
            receiver = of_class files named.class;
            leads = leads_after files site m;
            choose = interface_choice files named.class m;
            is = refl;
            object = refl;
            chooses = λ world ops.
                ap (method_run files site world ops) i
                ∙ (ap (option_and_then (run_interface files world ops)) names
                ∙ ap (option_and_then (λ (method : Member). chosen_on (interface_choice files named.class method) world ops method)) found);
            describes = λ world r x h. implements_described files m (is_subtype files (type_of (object_at world r)) (ClassType named.class)) (its_class world r) x h;
            by_type = λ world other r h.
                ap (λ type. if_implements (is_subtype files type (ClassType named.class)) (selected files (its_class other r) m)) h
                ∙ ap (λ class. if_implements (is_subtype files (type_of (object_at world r)) (ClassType named.class)) (selected files class m)) (same_class world other r h);
          })

  -- ---- by the instruction

  either_of : Option Row → Option (MeaningOf Value) → Option (MeaningOf Value)
  either_of (Some row) other = Some (local_meaning values row)
  either_of None other = other

  by_row : (o : Option Row) → local_or values files site o ≡ either_of o (other_meaning values files site site.instr)
  unfolding either_of
  by_row (Some row) = refl
  by_row None = refl

  with_instr : Instr → Option (MeaningOf Value)
  with_instr i = either_of (local_row (integers_of site.body.pool) site.body.code.code site.offset site.next i) (other_meaning values files site i)

  meant : meaning_of values files site ≡ with_instr site.instr
  unfolding with_instr
  meant = by_row (local_row (integers_of site.body.pool) site.body.code.code site.offset site.next site.instr)

  module _ (meaning : MeaningOf Value) where
    named_case : (index : ℕ) (make : Member → Option (MeaningOf Value)) → ((named : Member) → method_at site.body.pool index ≡ Some named → make named ≡ Some meaning → Calling files site meaning)
        → (o : Option Member) → method_at site.body.pool index ≡ o → option_and_then make o ≡ Some meaning → Calling files site meaning
    named_case index make each None q e = absurd (none-some meaning e)
    named_case index make each (Some named) q e = each named q e

    interface_named : (index count last : ℕ) → site.instr ≡ instr.InvokeInterface index count last → (o : Option Member) → interface_method_at site.body.pool index ≡ o
        → option_and_then (interface_of values files site) o ≡ Some meaning → Calling files site meaning
    interface_named index count last i None q e = absurd (none-some meaning e)
    interface_named index count last i (Some named) q e = interface_case index count last named q i meaning e

    by_instr : (i : Instr) → is_call i ≡ true → site.instr ≡ i → with_instr i ≡ Some meaning → Calling files site meaning
    unfolding with_instr either_of is_call
    by_instr (instr.Invoke invocation.Virtual index) t i e =
        named_case index (invoke_virtual_meaning values files site) (λ named q h. virtual_case index named q i meaning h) (method_at site.body.pool index) refl e
    by_instr (instr.Invoke invocation.Special index) t i e =
        named_case index (special_of values files site) (λ named q h. special_case index named q i meaning h) (method_at site.body.pool index) refl e
    by_instr (instr.Invoke invocation.Static index) t i e =
        if_call is_static_method (static_call values files site) (option_and_then (find_method files) (method_at site.body.pool index)) meaning
        (λ m found static. static_case index i m found static (static_call values files site m)) e
    by_instr (instr.InvokeInterface index count last) t i e = interface_named index count last i (interface_method_at site.body.pool index) refl e
    by_instr _ t i e = absurd (false≢true t)

    by_kind : (b : Bool) → is_call site.instr ≡ b → meaning_of values files site ≡ Some meaning → Calling files site meaning
    by_kind true t e = by_instr site.instr t refl (sym meant ∙ e)
    by_kind false t e = BuildsNone (λ world ops b. builds_none world ops b (no_call site.instr t world ops))

    pub calling : meaning_of values files site ≡ Some meaning → Calling files site meaning
    calling e = by_kind (is_call site.instr) refl e
