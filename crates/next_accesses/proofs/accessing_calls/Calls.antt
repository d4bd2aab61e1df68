-- What a call runs, by the method that it names, and what was told of the receiver.
use Rattle.std.proofs.Common.{arith, ◌≡◌, refl, sym, ap, subst, ◌∙◌, ℕ, suc, ◌+◌, List, [], ◌∷◌, ◌++◌, length, Bool, true, false, Option, Some, None, if◌then◌else◌}
use Rattle.std.specs.Prelude.{is_some, slice_get}
use Rattle.std.specs.Option.{option_and_then, option_map_or, option_or}
use Rattle.std.proofs.lemmas.Bool.{false≢true}
use Rattle.std.proofs.lemmas.List.{length-append}
use Rattle.std.proofs.lemmas.Option.{none-some, get_or_from_slice_get}
use Rattle.next_accesses.specs.declared.accessing_calls.AccessingMethod.{AccessingMethod}
use Rattle.model.specs.BuiltIn.{built_in_classes}
use Rattle.model.specs.Calls.{Chosen, Runs, parameter_count, selected, if_implements, special_class}
use Rattle.model.specs.Classes.{Program, class_of, classes_of, declared_in, lineage_of, lineage, superclass_of, all_superinterfaces}
use Rattle.model.specs.Lookup.{method_of, where_so, first_found, method_in_class, any_method, find_method, find_interface_method}
use Rattle.model.specs.Names.{Name, name_eq, Member, constructor_name}
use Rattle.model.specs.ReferenceTypes.{ClassType, is_subtype}
use Rattle.model.specs.State.{ObjectOf, type_of}
use Rattle.model.specs.Linkable.{IsLinkable}
use Rattle.model.specs.Tree.{FileTree, MethodTree}
use Rattle.model.specs.Worlds.{no_object, class_of_object}
use Rattle.linked_code.specs.declared.program.LinkedProgram.{LinkedProgram}
use Rattle.heap.specs.Heap.{Object}
use Rattle.method_tables.specs.method_links.Methods.{Names}
use Rattle.next_accesses.specs.accesses.Accesses.{object_under}
use Rattle.next_accesses.specs.accessing_calls.Called.{accessing_run, accessing_parameters, run_on, object_in, called_virtual, called_interface, called_special, TellsVirtual, TellsInterface, TellsConstructor, TellsAbove, CallsVirtual, CallsInterface, CallsSpecial}
use Rattle.next_accesses.proofs.accessing_calls.ClassNames.{searched_is}
use Rattle.next_accesses.proofs.accessing_calls.Named.{runs_same, counted, method_described, interface_described, selected_describes, implements_describes, on_null, on_object, never, found_number, some_found, none_found}

module _ (trees : Program) (operands : List ℕ) (named : Member) where
  -- as many parameters as the descriptor says
  abbrev Parameters : ℕ → Type 0
  Parameters k = Some k ≡ accessing_parameters named.descriptor

  count_is : (k : ℕ) → Parameters k → (m : Member) → m.descriptor ≡ named.descriptor → parameter_count m ≡ k
  count_is k e m d = counted m.descriptor k (e ∙ ap accessing_parameters (sym d))

  under_is : (k : ℕ) (o : Option ℕ) → Parameters k → o ≡ object_under operands k → (m : Member) → m.descriptor ≡ named.descriptor → object_under operands (parameter_count m) ≡ o
  under_is k o e h m d = ap (object_under operands) (count_is k e m d) ∙ sym h

module _ (trees : Program) (p : LinkedProgram) (objects : List Object) (operands : List ℕ) (named : Member) where
  -- of each method that is found, or of none
  of_found : (o : Option Member) (told : Option AccessingMethod) (f : Member → Option AccessingMethod) → ((m : Member) → o ≡ Some m → told ≡ f m) → (o ≡ None → told ≡ None)
      → told ≡ option_and_then f o
  of_found None told f each none = none refl
  of_found (Some m) told f each none = each m refl

  -- ---- invokevirtual

  module _ (told : Option AccessingMethod) where
    abbrev virtual_choice : List (ObjectOf ℕ) → Member → ℕ → Chosen
    virtual_choice heap m r = selected trees (class_of_object (object_in heap r)) m

    pub virtual_other : None ≡ accessing_parameters named.descriptor → told ≡ None → CallsVirtual trees p objects operands named told
    virtual_other none is program heap shows there =
        of_found (find_method trees named) told (λ m. run_on trees operands m (virtual_choice heap m))
        (λ m f.
        is
        ∙ sym (never trees operands m (virtual_choice heap m) (λ r x h. selected_describes trees (class_of_object (object_in heap r)) m x h)
        (ap accessing_parameters (method_described trees named m f) ∙ sym none)))
        (λ e. is)

    pub virtual_null : (k : ℕ) → Parameters trees operands named k → None ≡ object_under operands k → told ≡ None → CallsVirtual trees p objects operands named told
    virtual_null k e null is program heap shows there =
        of_found (find_method trees named) told (λ m. run_on trees operands m (virtual_choice heap m))
        (λ m f. is ∙ sym (on_null trees operands m (virtual_choice heap m) (under_is trees operands named k None e null m (method_described trees named m f))))
        (λ e. is)

    pub virtual_missing : Names trees None (find_method trees named) → told ≡ None → CallsVirtual trees p objects operands named told
    virtual_missing none is program heap shows there =
        is ∙ sym (ap (option_and_then (λ (m : Member). run_on trees operands m (virtual_choice heap m))) (none_found trees (find_method trees named) none))

    pub virtual_called : (k : ℕ) → Parameters trees operands named k → (r : ℕ) → Some r ≡ object_under operands k → (callee : ℕ) → Names trees (Some callee) (find_method trees named)
        → TellsVirtual trees p objects callee r told → CallsVirtual trees p objects operands named told
    virtual_called k e r at callee names tells program heap shows there =
        of_found (find_method trees named) told (λ m. run_on trees operands m (virtual_choice heap m))
        (λ m f.
        let under = under_is trees operands named k (Some r) e at m (method_described trees named m f) in
        let o = there r (under_is trees operands named k (Some r) e at named refl) in
        tells program heap shows o.0 o.1 m (found_number trees (find_method trees named) callee names m f)
        ∙ (ap (λ x. accessing_run trees (selected trees (class_of_object x) m)) (sym (get_or_from_slice_get heap r o.0 no_object o.1))
        ∙ sym (on_object trees operands m (virtual_choice heap m) r under)))
        (λ none. absurd (let s = some_found trees (find_method trees named) callee names in none-some s.0 (sym none ∙ s.1)))

    -- ---- invokeinterface

    abbrev interface_choice : List (ObjectOf ℕ) → Member → ℕ → Chosen
    interface_choice heap m r =
        if_implements (is_subtype trees (type_of (object_in heap r)) (ClassType named.class)) (selected trees (class_of_object (object_in heap r)) m)

    pub interface_other : None ≡ accessing_parameters named.descriptor → told ≡ None → CallsInterface trees p objects operands named told
    interface_other none is program heap shows there =
        of_found (find_interface_method trees named) told (λ m. run_on trees operands m (interface_choice heap m))
        (λ m f.
        is
        ∙ sym (never trees operands m (interface_choice heap m)
        (λ r x h. implements_describes trees (is_subtype trees (type_of (object_in heap r)) (ClassType named.class)) (class_of_object (object_in heap r)) m x h)
        (ap accessing_parameters (interface_described trees named m f) ∙ sym none)))
        (λ e. is)

    pub interface_null : (k : ℕ) → Parameters trees operands named k → None ≡ object_under operands k → told ≡ None → CallsInterface trees p objects operands named told
    interface_null k e null is program heap shows there =
        of_found (find_interface_method trees named) told (λ m. run_on trees operands m (interface_choice heap m))
        (λ m f. is ∙ sym (on_null trees operands m (interface_choice heap m) (under_is trees operands named k None e null m (interface_described trees named m f))))
        (λ e. is)

    pub interface_missing : Names trees None (find_interface_method trees named) → told ≡ None → CallsInterface trees p objects operands named told
    interface_missing none is program heap shows there =
        is ∙ sym (ap (option_and_then (λ (m : Member). run_on trees operands m (interface_choice heap m))) (none_found trees (find_interface_method trees named) none))

    pub interface_called : (k : ℕ) → Parameters trees operands named k → (r : ℕ) → Some r ≡ object_under operands k → (callee : ℕ) → Names trees (Some callee) (find_interface_method trees named)
        → TellsInterface trees p objects callee r named.class told → CallsInterface trees p objects operands named told
    interface_called k e r at callee names tells program heap shows there =
        of_found (find_interface_method trees named) told (λ m. run_on trees operands m (interface_choice heap m))
        (λ m f.
        let under = under_is trees operands named k (Some r) e at m (interface_described trees named m f) in
        let o = there r (under_is trees operands named k (Some r) e at named refl) in
        tells program heap shows o.0 o.1 m (found_number trees (find_interface_method trees named) callee names m f)
        ∙ (ap (λ (x : ObjectOf ℕ). accessing_run trees (if_implements (is_subtype trees (type_of x) (ClassType named.class)) (selected trees (class_of_object x) m)))
        (sym (get_or_from_slice_get heap r o.0 no_object o.1))
        ∙ sym (on_object trees operands m (interface_choice heap m) r under)))
        (λ none. absurd (let s = some_found trees (find_interface_method trees named) callee names in none-some s.0 (sym none ∙ s.1)))

-- ---- invokespecial

built_in_count : length built_in_classes ≡ 37
unfolding built_in_classes
built_in_count = refl

abbrev IsLinkedFrom : Program → Type 0
IsLinkedFrom trees = (bytes : List (List ℕ)) × IsLinkable bytes trees

-- a class comes first among those above it
next_number : (n : ℕ) → 37 + n ≡ suc (36 + n)
next_number n = omega arith

counted_classes : (trees : Program) → length (classes_of trees) ≡ suc (36 + length trees)
counted_classes trees = length-append built_in_classes trees ∙ (ap (λ n. n + length trees) built_in_count ∙ next_number (length trees))

first_above : (trees : Program) (class : Name) → lineage trees class ≡ class ∷ option_map_or (λ s. lineage_of trees (36 + length trees) s) (superclass_of trees class) []
first_above trees class = ap (λ n. lineage_of trees n class) (counted_classes trees)

-- a constructor that its class declares is found
module _ (trees : Program) (program : IsLinkedFrom trees) (named : Member) where
  abbrev look : Name → Option Member
  look class = method_in_class trees any_method named class

  abbrev above : List Name
  above = option_map_or (λ s. lineage_of trees (36 + length trees) s) (superclass_of trees named.class) []

  declared_by : (o : Option MethodTree) → is_some o ≡ true
      → option_or (option_or (where_so (option_map_or any_method o false) named) (first_found look above)) (first_found look (all_superinterfaces trees named.class)) ≡ Some named
  declared_by None e = absurd (false≢true e)
  declared_by (Some tree) e = refl

  -- its class is there
  class_there : (o : Option FileTree) → is_some (option_and_then (λ (file : FileTree). declared_in file named.name named.descriptor) o) ≡ true → (file : FileTree) × (o ≡ Some file)
  class_there None h = absurd (false≢true h)
  class_there (Some file) h = (file, refl)

  abbrev found_in : Name → Option Member
  found_in class = option_or (first_found look (lineage trees class)) (first_found look (all_superinterfaces trees class))

  declared_found : is_some (method_of trees named) ≡ true → find_method trees named ≡ Some named
  declared_found h =
      let c = class_there (class_of trees named.class) h in
      ap found_in (searched_is program.0 trees program.1 named.class c.0 c.1)
      ∙ (ap (λ classes. option_or (first_found look classes) (first_found look (all_superinterfaces trees named.class))) (first_above trees named.class)
      ∙ declared_by (method_of trees named) h)

module _ (trees : Program) (p : LinkedProgram) (operands : List ℕ) (current : Name) (named : Member) (told : Option AccessingMethod) where
  abbrev above_choice : Member → ℕ → Chosen
  above_choice m r = selected trees (special_class trees current named.class) m

  abbrev by_name : Bool → Option AccessingMethod
  by_name b = if b then run_on trees operands named (λ r. Runs named) else option_and_then (λ (m : Member). run_on trees operands m (above_choice m)) (find_method trees named)

  -- of either
  by_both : told ≡ run_on trees operands named (λ r. Runs named) → ((m : Member) → find_method trees named ≡ Some m → told ≡ run_on trees operands m (above_choice m))
      → (find_method trees named ≡ None → told ≡ None) → told ≡ by_name (name_eq named.name constructor_name)
  by_both one each none = by (name_eq named.name constructor_name)
    where
      of_found : (o : Option Member) → find_method trees named ≡ o → told ≡ option_and_then (λ (m : Member). run_on trees operands m (above_choice m)) o
      of_found None e = none e
      of_found (Some m) e = each m e

      by : (b : Bool) → told ≡ by_name b
      by true = one
      by false = of_found (find_method trees named) refl

  pub special_other : None ≡ accessing_parameters named.descriptor → told ≡ None → CallsSpecial trees p operands current named told
  special_other none is program declared begins =
      by_both (is ∙ sym (never trees operands named (λ r. Runs named) (λ r x h. sym (ap (λ (y : Member). y.descriptor) (runs_same named x h))) (sym none)))
      (λ m f. is
      ∙ sym (never trees operands m (above_choice m) (λ r x h. selected_describes trees (special_class trees current named.class) m x h)
      (ap accessing_parameters (method_described trees named m f) ∙ sym none)))
      (λ e. is)

  pub special_null : (k : ℕ) → Some k ≡ accessing_parameters named.descriptor → None ≡ object_under operands k → told ≡ None → CallsSpecial trees p operands current named told
  special_null k e null is program declared begins =
      by_both (is ∙ sym (on_null trees operands named (λ r. Runs named) (under_is trees operands named k None e null named refl)))
      (λ m f. is ∙ sym (on_null trees operands m (above_choice m) (under_is trees operands named k None e null m (method_described trees named m f))))
      (λ none. is)

  -- nothing is found
  pub special_missing : Names trees None (find_method trees named) → told ≡ None → CallsSpecial trees p operands current named told
  special_missing none is program declared begins = by (name_eq named.name constructor_name) refl
    where
      found : find_method trees named ≡ None
      found = none_found trees (find_method trees named) none

      by : (b : Bool) → name_eq named.name constructor_name ≡ b → told ≡ by_name (name_eq named.name constructor_name)
      by true e = absurd (none-some named (sym found ∙ declared_found trees (program.files, program.linkable) named (declared e)))
      by false e = is ∙ sym (ap by_name e ∙ ap (option_and_then (λ (m : Member). run_on trees operands m (above_choice m))) found)

  module _ (k : ℕ) (e : Some k ≡ accessing_parameters named.descriptor) (r : ℕ) (at : Some r ≡ object_under operands k) (callee : ℕ)
      (names : Names trees (Some callee) (find_method trees named)) where
    pub special_constructor : name_eq named.name constructor_name ≡ true → TellsConstructor trees p callee told → CallsSpecial trees p operands current named told
    special_constructor constructs tells program declared begins =
        tells program named (found_number trees (find_method trees named) callee names named (declared_found trees (program.files, program.linkable) named (declared constructs)))
        ∙ (sym (on_object trees operands named (λ x. Runs named) r (under_is trees operands named k (Some r) e at named refl)) ∙ sym (ap by_name constructs))

    pub special_above : name_eq named.name constructor_name ≡ false → TellsAbove trees p (special_class trees current named.class) callee told
        → CallsSpecial trees p operands current named told
    special_above other tells program declared begins =
        let f = some_found trees (find_method trees named) callee names in
        tells program (begins other) f.0 (found_number trees (find_method trees named) callee names f.0 f.1)
        ∙ (sym (on_object trees operands f.0 (above_choice f.0) r (under_is trees operands named k (Some r) e at f.0 (method_described trees named f.0 f.1)))
        ∙ sym (ap by_name other ∙ ap (option_and_then (λ (m : Member). run_on trees operands m (above_choice m))) f.1))
