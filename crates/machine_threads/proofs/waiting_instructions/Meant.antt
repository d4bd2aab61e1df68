-- What the instruction of a site may wait for: nothing, the monitor of monitorenter, or what a call waits for.
use Rattle.std.proofs.Common.{◌≡◌, ◌&&◌, ℕ, List, [], ◌∷◌, Option, Some, None, Bool, true, false, refl, sym, ap, subst, ◌∙◌}
use Rattle.std.specs.Prelude.{codes, find, unwrap_or, if◌then◌else◌}
use Rattle.std.specs.Option.{option_map}
use Rattle.std.specs.List.{AllByRecursion}
use Rattle.std.proofs.lemmas.Bool.{true≢false}
use Rattle.std.proofs.lemmas.Option.{same_Some}
use Rattle.model.specs.Names.{Name, Member, name_eq, java_lang_class, java_lang_string}
use Rattle.model.specs.BuiltIn.{built_in_classes}
use Rattle.model.specs.BuiltInMethods.{BuiltInMethod, Construct, ConstructWithMessage, ConstructWithCause, built_in_methods, constructor_of, is_row_of, built_in_method, built_in_may}
use Rattle.model.specs.Calls.{Chosen, Runs, may_run, may_invoke, invoked, selected, its_class, if_implements, of_class, of_named, special_class, call_on, static_call, virtual_call, interface_call, special_call, constructor_call, leads_after, constructed_leads}
use Rattle.model.specs.Classes.{Program, Body, body_of, is_built_in}
use Rattle.model.specs.Meaning.{waiting_at}
use Rattle.model.specs.Meanings.{meaning_of}
use Rattle.model.specs.MonitorMeanings.{monitor_enter_meaning}
use Rattle.model.specs.Operands.{Slots, words}
use Rattle.model.specs.Outcomes.{OutcomeOf, Interrupts, not_null}
use Rattle.model.specs.Opening.{class_reference, string_reference}
use Rattle.model.specs.ReferenceTypes.{ClassType, is_subtype}
use Rattle.model.specs.Report.{Blocked, Joining}
use Rattle.model.specs.Sites.{Leads, MeaningOf, Site, referent}
use Rattle.model.specs.State.{WorldOf, type_of}
use Rattle.model.specs.Worlds.{object_at}
use Rattle.model.specs.DescribedTypes.{type_named}
use Rattle.model.specs.Types.{Want, AReceiver}
use Rattle.run_laws.proofs.laws.Found.{every_all}
use Rattle.run_laws.proofs.laws.Classes.{names_same}
use Rattle.run_laws.proofs.laws.Operations.{Operation, OfRow, GetSystemStream, GetStatic, PutStatic, GetField, PutField, Println, CallVirtual, CallConstructor, CallSpecial, CallStatic, CallInterface, Return, LoadClass, LoadString, New, NewArray, NewReferenceArray, ArrayLength, LoadElement, StoreElement, CheckCast, InstanceOf, Throw, MonitorEnter, MonitorExit, operation, OfMeaning, each_meaning}
use Rattle.machine_state.specs.linked_frames.Frames.{event_of}
use Rattle.machine_threads.proofs.waiting_instructions.Quick.{IsQuick, quick_row, quick_system_stream, quick_get_static, quick_put_static, quick_get_field, quick_put_field, quick_println, quick_return, quick_object, quick_new, quick_primitives, quick_references, quick_length, quick_load, quick_store, quick_cast, quick_instance, quick_throw, quick_exit}
use Rattle.machine_threads.proofs.waiting_instructions.BuiltIns.{invocation_held}

-- ---- a static method of a class of a file: it is none of the built-in ones

and_false : (a b : Bool) → a ≡ false → (a && b) ≡ false
and_false a b e = ap (λ x. x && b) e

other_name : (class other : Name) → is_built_in class ≡ true → is_built_in other ≡ false → (b : Bool) → name_eq class other ≡ b → b ≡ false
other_name class other stands file true e =
    let same : class ≡ other = names_same class other e in
    let both : true ≡ false = sym stands ∙ ap is_built_in same ∙ file in
    absurd cc
other_name class other stands file false e = refl

abbrev Rows : Type 0
Rows = List (Member × BuiltInMethod)

by_test : (method : Member) (row : Member × BuiltInMethod) (rows : Rows) → is_row_of method row ≡ false
    → find (is_row_of method) rows ≡ None → find (is_row_of method) (row ∷ rows) ≡ None
by_test method row rows e rest = ap (λ b. if b then Some row else find (is_row_of method) rows) e ∙ rest

not_found : (method : Member) → is_built_in method.class ≡ false → (rows : Rows)
    → AllByRecursion (λ (row : Member × BuiltInMethod). is_built_in row.0.class ≡ true) rows → find (is_row_of method) rows ≡ None
not_found method file [] h = refl
not_found method file (row ∷ rows) h =
    by_test method row rows (and_false (name_eq row.0.class method.class) _ (other_name row.0.class method.class h.0 file (name_eq row.0.class method.class) refl))
    (not_found method file rows h.1)

rows_built_in : AllByRecursion (λ (row : Member × BuiltInMethod). is_built_in row.0.class ≡ true) built_in_methods
unfolding built_in_classes
rows_built_in = every_all (λ (row : Member × BuiltInMethod). is_built_in row.0.class) built_in_methods refl

constructs : (method : Member) → is_built_in method.class ≡ false → built_in_method method ≡ constructor_of method.descriptor
constructs method file =
    ap (λ (o : Option (Member × BuiltInMethod)). unwrap_or (option_map (λ (row : Member × BuiltInMethod). row.1) o) (constructor_of method.descriptor))
    (not_found method file built_in_methods rows_built_in)

-- a constructor waits for nothing
constructed_allowed : (descriptor : Name) (t : ℕ) (world : WorldOf ℕ) (ops : List ℕ)
    → built_in_may words (constructor_of descriptor) (event_of t) world ops ≡ true
constructed_allowed descriptor t world ops = by (name_eq descriptor (codes "(Ljava/lang/String;)V")) (name_eq descriptor (codes "(Ljava/lang/String;Ljava/lang/Throwable;)V"))
  where
    by : (one two : Bool) → built_in_may words (if one then ConstructWithMessage else if two then ConstructWithCause else Construct) (event_of t) world ops ≡ true
    by true two = refl
    by false true = refl
    by false false = refl

run_allowed : (t : ℕ) (world : WorldOf ℕ) (ops : List ℕ) (method : Member) → is_built_in method.class ≡ false → (body : Option Body)
    → may_run words (event_of t) world ops method body ≡ true
run_allowed t world ops method file None = ap (λ b. built_in_may words b (event_of t) world ops) (constructs method file) ∙ constructed_allowed method.descriptor t world ops
run_allowed t world ops method file (Some body) = refl

-- ---- calls

-- a meaning invokes what it chooses
pub record IsCall (trees : Program) (site : Site) (m : MeaningOf ℕ) : Type 0 where
  pub chosen : ℕ → WorldOf ℕ → List ℕ → Chosen
  pub object : ℕ → WorldOf ℕ → List ℕ → ℕ
  pub may : (t : ℕ) (world : WorldOf ℕ) (ops : List ℕ)
      → m.may (event_of t) world ops ≡ may_invoke words trees (event_of t) world ops (chosen t world ops)
  pub does : (t : ℕ) (world : WorldOf ℕ) (slots : Slots ℕ) (ops rest : List ℕ)
      → m.does (event_of t) world slots ops rest
      ≡ invoked words trees site (event_of t) world slots ops rest (object t world ops) (chosen t world ops)
  -- where it needs a class of a file, nothing holds it
  pub by_class : (class : Name) → m.looks ≡ Some class → is_built_in class ≡ false → (t : ℕ) (world : WorldOf ℕ) (ops : List ℕ)
      → m.may (event_of t) world ops ≡ true

pub calls_on : (trees : Program) (site : Site) (callee : Member) (wants : List Want) (leads : Leads) (choose : WorldOf ℕ → ℕ → Chosen)
    → IsCall trees site (call_on words trees site callee wants leads choose)
calls_on trees site callee wants leads choose = record {
  chosen = _;
  object = _;
  may = λ t world ops. refl;
  does = λ t world slots ops rest. refl;
  by_class = λ class looks file t world ops. let both : None ≡ Some class = looks in absurd cc;
}

pub calls_static : (trees : Program) (site : Site) (callee : Member) → IsCall trees site (static_call words trees site callee)
calls_static trees site callee = record {
  chosen = λ t world ops. Runs callee;
  object = λ t world ops. class_reference trees callee.class;
  may = λ t world ops. refl;
  does = λ t world slots ops rest. refl;
  by_class = λ class looks file t world ops. let same : callee.class ≡ class = same_Some callee.class class looks in run_allowed t world ops callee (ap is_built_in same ∙ file) (body_of trees callee);
}

pub calls_virtual : (trees : Program) (site : Site) (named : Name) (callee : Member)
    → IsCall trees site (virtual_call words trees site named callee)
calls_virtual trees site named callee = calls_on trees site callee (of_named trees named ∷ []) (leads_after trees site callee) (λ world r. selected trees (its_class world r) callee)

pub calls_interface : (trees : Program) (site : Site) (named : Name) (callee : Member)
    → IsCall trees site (interface_call words trees site named callee)
calls_interface trees site named callee =
    calls_on trees site callee (of_class trees named ∷ []) (leads_after trees site callee) (λ world r. if_implements (is_subtype trees (type_of (object_at world r)) (ClassType named)) (selected trees (its_class world r) callee))

pub calls_special : (trees : Program) (site : Site) (named : Name) (callee : Member)
    → IsCall trees site (special_call words trees site named callee)
calls_special trees site named callee = calls_on trees site callee (of_class trees site.method.class ∷ []) (leads_after trees site callee) (λ world r. selected trees (special_class trees site.method.class named) callee)

pub calls_constructor : (trees : Program) (site : Site) (callee : Member) → IsCall trees site (constructor_call words trees site callee)
calls_constructor trees site callee = calls_on trees site callee (AReceiver callee.class ∷ []) (constructed_leads site callee) (λ world r. Runs callee)

-- ---- each instruction

pub data Kind (trees : Program) (site : Site) (m : MeaningOf ℕ) : Type 0 where
  Quick : IsQuick m → Kind trees site m
  Enters : waiting_at site.instr ≡ Blocked → m ≡ monitor_enter_meaning words site → Kind trees site m
  Invokes : waiting_at site.instr ≡ Joining → IsCall trees site m → Kind trees site m

module _ (trees : Program) (site : Site) where
  each : (o : Operation trees site) → Kind trees site (operation words trees site o)
  each (OfRow row e) = Quick (quick_row trees site 0 row)
  each (GetSystemStream index stream n) = Quick (quick_system_stream trees site site.next stream)
  each (GetStatic f) = Quick (quick_get_static trees site site.next f.field)
  each (PutStatic f) = Quick (quick_put_static trees site site.next f.field)
  each (GetField f) = Quick (quick_get_field trees site site.next f.named.class f.field)
  each (PutField f) = Quick (quick_put_field trees site site.next f.named.class f.field)
  each (Println call e) = Quick (quick_println trees site site.next)
  each (CallVirtual call e m) = Invokes (ap waiting_at call.instruction) (calls_virtual trees site call.named.class m.method)
  each (CallConstructor call e p) = Invokes (ap waiting_at call.instruction) (calls_constructor trees site call.named)
  each (CallSpecial call e m) = Invokes (ap waiting_at call.instruction) (calls_special trees site call.named.class m.method)
  each (CallStatic index i m) = Invokes (ap waiting_at i) (calls_static trees site m.method)
  each (CallInterface call m) = Invokes (ap waiting_at call.instruction) (calls_interface trees site call.named.class m.method)
  each (Return kind i) = Quick (quick_return trees site 0 site.method.descriptor kind)
  each (LoadClass constant file e) = Quick (quick_object trees site 0 java_lang_class (class_reference trees constant.text))
  each (LoadString constant) = Quick (quick_object trees site 0 java_lang_string (string_reference trees constant.text))
  each (New class file e) = Quick (quick_new trees site 0 class.name)
  each (NewArray code of i e) = Quick (quick_primitives trees site 0 of)
  each (NewReferenceArray class) = Quick (quick_references trees site 0 (type_named class.name))
  each (ArrayLength i) = Quick (quick_length trees site 0)
  each (LoadElement kind i) = Quick (quick_load trees site 0 kind)
  each (StoreElement kind i) = Quick (quick_store trees site 0 kind)
  each (CheckCast class) = Quick (quick_cast trees site 0 (type_named class.name))
  each (InstanceOf class) = Quick (quick_instance trees site 0 (type_named class.name))
  each (Throw i) = Quick (quick_throw trees site 0)
  each (MonitorEnter i) = Enters (ap waiting_at i) refl
  each (MonitorExit i) = Quick (quick_exit trees site 0)

  pub kind_of : (m : MeaningOf ℕ) → meaning_of words trees site ≡ Some m → Kind trees site m
  kind_of m e = subst (OfMeaning (Kind trees site)) e (each_meaning words trees site (Kind trees site) each)

  -- what monitorenter does is not what an interrupted join does
  not_interrupted : (o : Option ℕ) (go : ℕ → OutcomeOf ℕ) → ((r : ℕ) → go r ≡ Interrupts → ⊥) → not_null o go ≡ Interrupts → ⊥
  not_interrupted None go h e = cc
  not_interrupted (Some r) go h e = h r e

  enters_not : (t : ℕ) (world : WorldOf ℕ) (slots : Slots ℕ) (ops rest : List ℕ)
      → (monitor_enter_meaning words site).does (event_of t) world slots ops rest ≡ Interrupts → ⊥
  enters_not t world slots ops rest e = not_interrupted (referent words ops 0) _ (λ r q. cc) e

  module _ (m : MeaningOf ℕ) (means : meaning_of words trees site ≡ Some m) (t : ℕ) (world : WorldOf ℕ) (slots : Slots ℕ) (ops : List ℕ) (held : m.may (event_of t) world ops ≡ false) where
    interrupted : IsCall trees site m → m.does (event_of t) world slots ops [] ≡ Interrupts
    interrupted c = c.does t world slots ops [] ∙ invocation_held trees site t world slots ops [] (c.object t world ops) (c.chosen t world ops) (sym (c.may t world ops) ∙ held)

    -- a call that is held waits for the end of a thread
    pub joins : IsCall trees site m → waiting_at site.instr ≡ Joining
    joins c = by (kind_of m means)
      where
        by : Kind trees site m → waiting_at site.instr ≡ Joining
        by (Quick q) = absurd (true≢false (sym (q.may t world ops) ∙ held))
        by (Enters w e) = absurd (enters_not t world slots ops [] (ap (λ (x : MeaningOf ℕ). x.does (event_of t) world slots ops []) (sym e) ∙ interrupted c))
        by (Invokes w d) = w

    -- a monitorenter that is held waits for the monitor
    pub enters : m ≡ monitor_enter_meaning words site → waiting_at site.instr ≡ Blocked
    enters e = by (kind_of m means)
      where
        by : Kind trees site m → waiting_at site.instr ≡ Blocked
        by (Quick q) = absurd (true≢false (sym (q.may t world ops) ∙ held))
        by (Enters w q) = w
        by (Invokes w c) = absurd (enters_not t world slots ops [] (ap (λ (x : MeaningOf ℕ). x.does (event_of t) world slots ops []) (sym e) ∙ interrupted c))
