-- What is answered for an instruction, by what its operand names.
use Rattle.std.proofs.Common.{◌≡◌, ℕ, List, [], ◌++◌, Option, Some, None, Bool, false, ◌||◌, nat_le, Result, refl, sym, ◌∙◌, subst}
use Rattle.std.specs.List.{list_any, flat_map}
use Rattle.std.specs.Option.{option_map, option_map_or, option_and_then, option_to_list}
use Rattle.std.proofs.lemmas.List.{append-nil}
use Rattle.model.specs.declared.instr.Instr.{Instr}
use Rattle.model.specs.declared.instr.Instr.TheVariants as instr
use Rattle.model.specs.declared.instr.FieldAccess.{FieldAccess}
use Rattle.model.specs.declared.instr.Invocation.TheVariants as invocation
use Rattle.model.specs.declared.instr.Returned.{Returned}
use Rattle.model.specs.declared.value.Value.{Value}
use Rattle.model.specs.AccessFlags.{is_static_method}
use Rattle.model.specs.Names.{Name, Member}
use Rattle.model.specs.Classes.{Program}
use Rattle.model.specs.Pool.{class_name_at, field_at, method_at, interface_method_at}
use Rattle.model.specs.Lookup.{find_method}
use Rattle.model.specs.DescriptorScan.{dimensions_of}
use Rattle.model.specs.DescriptorParts.{classes_in, classes_named}
use Rattle.model.specs.DescribedTypes.{type_named}
use Rattle.model.specs.CodeConditions.{too_many_dimensions}
use Rattle.model.specs.Resolution.{is_missing, member_classes, called_classes, operand_classes}
use Rattle.model.specs.Operands.{values}
use Rattle.model.specs.Sites.{MeaningOf, Site}
use Rattle.model.specs.Arrays.{reference_array_meaning}
use Rattle.model.specs.Objects.{new_named, check_cast_meaning, instance_of_meaning}
use Rattle.model.specs.Calls.{if_method, static_call, special_of, interface_of, return_of}
use Rattle.model.specs.Meanings.{field_meaning, invoke_virtual_meaning, other_meaning}
use Rattle.instruction_types.specs.declared.meaning.Meaning.{Meaning}
use Rattle.instruction_types.specs.declared.meaning.NoMeaning.{NoMeaning}
use Rattle.instruction_types.specs.Answers.{Answers, AnswersAt, returned_classes, named_constant, is_no_type}

module _ (files : Program) (site : Site) (r : Result Meaning NoMeaning) where
  abbrev pub some_missing : List Name → Bool
  some_missing names = list_any (is_missing files) names

  abbrev pub refused_for : Instr → Bool
  refused_for i =
      some_missing (returned_classes site.method.descriptor i ++ operand_classes site.body.pool i)
      || (too_many_dimensions site.body.pool i || option_map_or is_no_type (named_constant site.body.pool i) false)

  abbrev pub AnswersFor : Instr → Type 0
  AnswersFor i = Answers files site (refused_for i) (other_meaning values files site i) r

  pub answers_for : (i : Instr) → site.instr ≡ i → AnswersFor i → AnswersAt files site r
  answers_for i is h = subst (λ (j : Instr). AnswersFor j) (sym is) h

  -- ---- members

  pub for_field : (how : FieldAccess) (index : ℕ) (m : Member) → site.instr ≡ instr.Field how index → Some m ≡ field_at site.body.pool index
      → Answers files site (some_missing (member_classes (Some m)) || false) (field_meaning values files site.next how m) r
      → AnswersAt files site r
  for_field how index m is e h =
      let there = subst (λ (names : List Name). Answers files site (some_missing names || false) (field_meaning values files site.next how m) r) (sym (append-nil (member_classes (Some m)))) h in
      answers_for (instr.Field how index) is (subst (λ (o : Option Member). Answers files site (some_missing (member_classes o ++ []) || false) (option_and_then (field_meaning values files site.next how) o) r) e there)

  abbrev AnswersCall : (Option Member → List Name) → (Option Member → Option (MeaningOf Value)) → Option Member → Type 0
  AnswersCall classes model o = Answers files site (some_missing (classes o) || false) (model o) r

  abbrev AnswersVirtual : Option Member → Type 0
  AnswersVirtual o =
      Answers files site (some_missing (called_classes o) || (false || option_map_or is_no_type (option_map (λ (m : Member). m.class) o) false)) (option_and_then (invoke_virtual_meaning values files site) o) r

  pub for_virtual : (index : ℕ) (m : Member) → site.instr ≡ instr.Invoke invocation.Virtual index → Some m ≡ method_at site.body.pool index
      → AnswersVirtual (Some m) → AnswersAt files site r
  for_virtual index m is e h = answers_for (instr.Invoke invocation.Virtual index) is (subst AnswersVirtual e h)

  pub for_special : (index : ℕ) (m : Member) → site.instr ≡ instr.Invoke invocation.Special index → Some m ≡ method_at site.body.pool index
      → AnswersCall called_classes (option_and_then (special_of values files site)) (Some m) → AnswersAt files site r
  for_special index m is e h = answers_for (instr.Invoke invocation.Special index) is (subst (AnswersCall called_classes (option_and_then (special_of values files site))) e h)

  abbrev static_found : Option Member → Option (MeaningOf Value)
  static_found o = option_and_then (if_method is_static_method files (static_call values files site)) (option_and_then (find_method files) o)

  pub for_static : (index : ℕ) (m : Member) → site.instr ≡ instr.Invoke invocation.Static index → Some m ≡ method_at site.body.pool index
      → AnswersCall called_classes static_found (Some m) → AnswersAt files site r
  for_static index m is e h = answers_for (instr.Invoke invocation.Static index) is (subst (AnswersCall called_classes static_found) e h)

  pub for_interface : (index count last : ℕ) (m : Member) → site.instr ≡ instr.InvokeInterface index count last
      → Some m ≡ interface_method_at site.body.pool index
      → AnswersCall member_classes (option_and_then (interface_of values files site)) (Some m) → AnswersAt files site r
  for_interface index count last m is e h = answers_for (instr.InvokeInterface index count last) is (subst (AnswersCall member_classes (option_and_then (interface_of values files site))) e h)

  -- ---- class constants

  abbrev refused_class : (Name → Bool) → Option Name → Bool
  refused_class long o = some_missing (flat_map classes_named (option_to_list o) ++ []) || (option_map_or long o false || option_map_or is_no_type o false)

  abbrev AnswersClass : (Name → Bool) → (Option Name → Option (MeaningOf Value)) → Option Name → Type 0
  AnswersClass long model o = Answers files site (refused_class long o) (model o) r

  of_name : (long : Name → Bool) (model : Option (MeaningOf Value)) (name : Name)
      → Answers files site (some_missing (classes_named name) || (long name || is_no_type name)) model r
      → Answers files site (refused_class long (Some name)) model r
  of_name long model name h =
      subst (λ (names : List Name). Answers files site (some_missing names || (long name || is_no_type name)) model r) (sym (append-nil (classes_named name ++ []) ∙ append-nil (classes_named name))) h

  abbrev never : Name → Bool
  never name = false

  or_never : (o : Option Name) (b : Bool) → (option_map_or never o false || b) ≡ b
  or_never None b = refl
  or_never (Some name) b = refl

  abbrev new_model : Option Name → Option (MeaningOf Value)
  new_model o = option_and_then (new_named values files site) o

  abbrev refused_new : Option Name → Bool
  refused_new o = some_missing (flat_map classes_named (option_to_list o) ++ []) || option_map_or is_no_type o false

  pub for_new : (index : ℕ) (name : Name) → site.instr ≡ instr.New index → Some name ≡ class_name_at site.body.pool index
      → ((refused : Bool) → Answers files site refused (new_named values files site name) r) → AnswersAt files site r
  for_new index name is e h = answers_for (instr.New index) is (subst (λ (o : Option Name). Answers files site (refused_new o) (new_model o) r) e (h (refused_new (Some name))))

  abbrev long_name : Name → Bool
  long_name name = nat_le 255 (dimensions_of name)

  abbrev array_model : Option Name → Option (MeaningOf Value)
  array_model o = option_map (λ (name : Name). reference_array_meaning values files site (type_named name)) o

  pub for_array : (index : ℕ) (name : Name) → site.instr ≡ instr.NewReferenceArray index → Some name ≡ class_name_at site.body.pool index
      → Answers files site (some_missing (classes_named name) || (long_name name || is_no_type name))
      (Some (reference_array_meaning values files site (type_named name))) r → AnswersAt files site r
  for_array index name is e h = answers_for (instr.NewReferenceArray index) is (subst (AnswersClass long_name array_model) e (of_name long_name (array_model (Some name)) name h))

  abbrev cast_model : Option Name → Option (MeaningOf Value)
  cast_model o = option_map (λ (name : Name). check_cast_meaning values files site (type_named name)) o

  pub for_cast : (index : ℕ) (name : Name) → site.instr ≡ instr.CheckCast index → Some name ≡ class_name_at site.body.pool index
      → Answers files site (some_missing (classes_named name) || (false || is_no_type name))
      (Some (check_cast_meaning values files site (type_named name))) r → AnswersAt files site r
  for_cast index name is e h =
      answers_for (instr.CheckCast index) is (subst (λ (o : Option Name). Answers files site (refused_new o) (cast_model o) r) e (of_name never (cast_model (Some name)) name h))

  abbrev test_model : Option Name → Option (MeaningOf Value)
  test_model o = option_map (λ (name : Name). instance_of_meaning values files site (type_named name)) o

  pub for_test : (index : ℕ) (name : Name) → site.instr ≡ instr.InstanceOf index → Some name ≡ class_name_at site.body.pool index
      → ((refused : Bool) → Answers files site refused (Some (instance_of_meaning values files site (type_named name))) r)
      → AnswersAt files site r
  for_test index name is e h = answers_for (instr.InstanceOf index) is (subst (λ (o : Option Name). Answers files site (refused_new o) (test_model o) r) e (h (refused_new (Some name))))

  -- ---- returns

  pub for_return : (how : Returned) → site.instr ≡ instr.Return how
      → Answers files site (some_missing (classes_in site.method.descriptor) || false)
      (Some (return_of values files site.method.descriptor how)) r → AnswersAt files site r
  for_return how is h =
      answers_for (instr.Return how) is
      (subst (λ (names : List Name). Answers files site (some_missing names || false) (Some (return_of values files site.method.descriptor how)) r) (sym (append-nil (classes_in site.method.descriptor))) h)
