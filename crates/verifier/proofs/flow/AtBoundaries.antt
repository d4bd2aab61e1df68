-- What linking gives of an instruction at a boundary of a method's code: what its operands name is found.
use Rattle.std.proofs.Common.{◌≡◌, ℕ, List, Bool, true, false, not, Option, Some, None, refl, sym, ap, ◌∙◌, subst}
use Rattle.std.specs.Option.{option_map, option_map_or}
use Rattle.std.specs.List.{list_any, list_all}
use Rattle.std.proofs.lemmas.Bool.{and_parts, or_parts, not-true}
use Rattle.model.specs.declared.instr.Instr.{Instr}
use Rattle.model.specs.declared.instr.Instr.TheVariants.{LoadConstant, New, NewReferenceArray, CheckCast, InstanceOf, Invoke}
use Rattle.model.specs.declared.instr.Invocation.TheVariants as invocation
use Rattle.model.specs.Names.{Name, spells, Member}
use Rattle.model.specs.Tree.{Entry, Utf8, Integer, Float, Long, Double, Class, String, Field, Method, InterfaceMethod, NameAndType, Unusable, MethodTree, CodeTree, FileTree}
use Rattle.model.specs.Spelling.{entry_at}
use Rattle.model.specs.Spells.{IsWhole}
use Rattle.model.specs.Pool.{NameAndDescriptor, class_name_of, class_name_at, name_and_type_at, reference, method_of_entry}
use Rattle.model.specs.Conditions.{is_class_or_array, entry_names}
use Rattle.model.specs.BuiltIn.{built_in_classes}
use Rattle.model.specs.Classes.{Program, class_of, is_method, declared_in, code_in}
use Rattle.model.specs.DescriptorScan.{element_at, field_at, field_type}
use Rattle.model.specs.Instruction.{instr_at, wide_at, table_switch_at, lookup_switch_at}
use Rattle.model.specs.InstructionStarts.{starts_from, is_start}
use Rattle.model.specs.OpcodeTable.{low_form, high_form}
use Rattle.model.specs.CodeParts.{decodes, any_code, any_instruction, any_decoded}
use Rattle.model.specs.CodeConditions.{jump_off_boundary, unsorted_matches, local_above_max, operand_of_wrong_kind, wrong_interface_count, wrong_interface_end, constructor_not_by_special, calls_initialiser, special_of_class_aside, new_of_array, too_many_dimensions, too_few_locals, ends_in_instruction, malformed_instruction, malformed_code}
use Rattle.model.specs.Resolution.{is_missing, operand_classes}
use Rattle.run_laws.proofs.laws.Lists.{every_weaken}
use Rattle.run_laws.proofs.laws.Found.{found_has, none_any, every_all, map_or_at}
use Rattle.run_laws.proofs.laws.Homes.{class_has, spelled}
use Rattle.run_laws.proofs.laws.Unrefused.{Unrefused}
use Rattle.run_laws.proofs.laws.Decoding.{not_false, of_decoded, undecoded, IsWellFormed}
use Rattle.run_laws.proofs.laws.LinkedCode.{resolved, no_instruction}
use Rattle.run_laws.proofs.laws.LinkedClasses.{entry_right}
use Rattle.classfile.specs.View as view
use Rattle.types.specs.declared.method_code.declaration.MethodCode.{MethodCode}
use Rattle.types.specs.method_code.Linked.{IsLinked}
use Rattle.types.specs.method_code.View.{files_of, member_of, body_of}
use Rattle.verifier.proofs.flow.LinkedTypes.{unrefused}
use Rattle.instruction_types.specs.Answers.{named_constant}
use Rattle.run_laws.proofs.laws.Classes.{name_self}

-- ---- a condition that stands at no boundary

in_method : (test : MethodTree → CodeTree → Bool) (file : FileTree) (name descriptor : Name) (m : MethodTree) (c : CodeTree)
    → any_code test file ≡ false → declared_in file name descriptor ≡ Some m → code_in m.parts ≡ Some c → test m c ≡ false
in_method test file name descriptor m c h d q =
    sym (map_or_at (test m) (code_in m.parts) false c q)
    ∙ found_has (λ (m : MethodTree). option_map_or (test m) (code_in m.parts) false ≡ false) (is_method file.pool name descriptor) file.methods m
    (none_any (λ (m : MethodTree). option_map_or (test m) (code_in m.parts) false) file.methods h) d

-- ---- names of class constants

names_type : (pool : List Entry) (e : Entry) (name : Name) → entry_names pool e ≡ true → class_name_of pool e ≡ Some name
    → is_class_or_array name ≡ true
names_type pool (Utf8 text) name h e = absurd cc
names_type pool (Integer bits) name h e = absurd cc
names_type pool (Float bits) name h e = absurd cc
names_type pool (Long bits) name h e = absurd cc
names_type pool (Double bits) name h e = absurd cc
names_type pool (Class index) name h e = subst (λ n. is_class_or_array n ≡ true) (spelled (entry_at pool index) name (ap (λ o. spells o name) e ∙ name_self name)) h
names_type pool (String text) name h e = absurd cc
names_type pool (Field class index) name h e = absurd cc
names_type pool (Method class index) name h e = absurd cc
names_type pool (InterfaceMethod class index) name h e = absurd cc
names_type pool (NameAndType index descriptor) name h e = absurd cc
names_type pool Unusable name h e = absurd cc

abbrev is_no_type : Name → Bool
is_no_type name = not (is_class_or_array name)

no_other : (pool : List Entry) (index : ℕ) → list_all (entry_names pool) pool ≡ true
    → option_map_or is_no_type (class_name_at pool index) false ≡ false
no_other pool index h = by (class_name_at pool index) refl
  where
    by : (o : Option Name) → class_name_at pool index ≡ o → option_map_or is_no_type (class_name_at pool index) false ≡ false
    by None e = ap (λ o. option_map_or is_no_type o false) e
    by (Some name) e = map_or_at is_no_type (class_name_at pool index) false name e ∙ ap (λ b. not b) (names_type pool (entry_at pool index) name (entry_right (entry_names pool) pool index refl h) e)

-- so is the class of a Methodref
method_type_right : (pool : List Entry) (e : Entry) → list_all (entry_names pool) pool ≡ true
    → option_map_or is_no_type (option_map (λ (m : Member). m.class) (method_of_entry pool e)) false ≡ false
method_type_right pool (Method class nat) h = by (class_name_at pool class) (name_and_type_at pool nat) (no_other pool class h)
  where
    by : (o : Option Name) (p : Option NameAndDescriptor) → option_map_or is_no_type o false ≡ false
        → option_map_or is_no_type (option_map (λ (m : Member). m.class) (reference o p)) false ≡ false
    by None p h = refl
    by (Some name) None h = refl
    by (Some name) (Some member) h = h
method_type_right pool (Utf8 text) h = refl
method_type_right pool (Integer bits) h = refl
method_type_right pool (Float bits) h = refl
method_type_right pool (Long bits) h = refl
method_type_right pool (Double bits) h = refl
method_type_right pool (Class index) h = refl
method_type_right pool (String text) h = refl
method_type_right pool (Field class nat) h = refl
method_type_right pool (InterfaceMethod class nat) h = refl
method_type_right pool (NameAndType index descriptor) h = refl
method_type_right pool Unusable h = refl

operand_type : (pool : List Entry) (i : Instr) → list_all (entry_names pool) pool ≡ true
    → option_map_or is_no_type (named_constant pool i) false ≡ false
operand_type pool (Invoke invocation.Virtual index) h = method_type_right pool (entry_at pool index) h
operand_type pool (LoadConstant index) h = no_other pool index h
operand_type pool (New index) h = no_other pool index h
operand_type pool (NewReferenceArray index) h = no_other pool index h
operand_type pool (CheckCast index) h = no_other pool index h
operand_type pool (InstanceOf index) h = no_other pool index h
operand_type pool other h = refl

-- ---- of each class

module _ (files : Program) where
  built_in_names : list_all (λ file. list_all (entry_names file.pool) file.pool) built_in_classes ≡ true
  unfolding built_in_classes element_at field_at field_type
  built_in_names = refl

  names_file : (file : FileTree) → IsWhole file → list_all (entry_names file.pool) file.pool ≡ true
  names_file file whole = (and_parts (list_all (entry_names file.pool) file.pool) _ whole.names).0

  abbrev any_deep : FileTree → Bool
  any_deep file = any_code (λ m c. any_instruction (λ pc i. too_many_dimensions file.pool i) c) file

  built_in_dimensions : list_all (λ file. not (any_deep file)) built_in_classes ≡ true
  unfolding built_in_classes low_form high_form wide_at table_switch_at lookup_switch_at starts_from
  built_in_dimensions = refl

  abbrev FewDimensions : FileTree → Type 0
  FewDimensions file =
      (name descriptor : Name) (m : MethodTree) (c : CodeTree) (pc : ℕ) (i : Instr) → declared_in file name descriptor ≡ Some m → code_in m.parts ≡ Some c → is_start c.code pc ≡ true → instr_at c.code pc ≡ Some i
      → too_many_dimensions file.pool i ≡ false

  few_built_in : (file : FileTree) → any_deep file ≡ false → FewDimensions file
  few_built_in file h name descriptor m c pc i d q start is =
      no_instruction (λ pc i. too_many_dimensions file.pool i) c pc i (in_method (λ m c. any_instruction (λ pc i. too_many_dimensions file.pool i) c) file name descriptor m c h d q) start is

  few_file : (file : FileTree) → IsWellFormed files file → FewDimensions file
  few_file file h name descriptor m c pc i d q start is =
      let a = or_parts (too_few_locals file m c) _ (in_method (malformed_code files file) file name descriptor m c h.none d q) in
      let b = or_parts (ends_in_instruction c) _ a.1 in
      let e = or_parts (any_decoded (malformed_instruction files file c) c) _ b.1 in
      let decoded : decodes c.code ≡ true = not_false _ (in_method undecoded file name descriptor m c h.decoded d q) in
      last (no_instruction (malformed_instruction files file c) c pc i (of_decoded (malformed_instruction files file c) c decoded e.0) start is)
    where
      last : malformed_instruction files file c pc i ≡ false → too_many_dimensions file.pool i ≡ false
      last h =
          let a = or_parts (jump_off_boundary c pc i) _ h in
          let b = or_parts (unsorted_matches c i) _ a.1 in
          let d = or_parts (local_above_max c i) _ b.1 in
          let f = or_parts (operand_of_wrong_kind file.pool i) _ d.1 in
          let g = or_parts (wrong_interface_count file.pool i) _ f.1 in
          let j = or_parts (wrong_interface_end i) _ g.1 in
          let k = or_parts (constructor_not_by_special file.pool i) _ j.1 in
          let l = or_parts (calls_initialiser file.pool i) _ k.1 in
          let n = or_parts (special_of_class_aside files file i) _ l.1 in
          (or_parts (new_of_array file.pool i) _ n.1).1

  few_dimensions : Unrefused files → (class : Name) (file : FileTree) → class_of files class ≡ Some file → FewDimensions file
  few_dimensions ok class file c =
      class_has files (λ f. FewDimensions f)
      (every_weaken _ _ built_in_classes (λ f h. few_built_in f (not-true (any_deep f) h)) (every_all _ built_in_classes built_in_dimensions))
      (every_weaken _ _ files (λ f h. few_file f h) ok.code)
      class file c

  names_right : Unrefused files → (class : Name) (file : FileTree) → class_of files class ≡ Some file
      → list_all (entry_names file.pool) file.pool ≡ true
  names_right ok class file c =
      class_has files (λ f. list_all (entry_names f.pool) f.pool ≡ true)
      (every_all _ built_in_classes built_in_names)
      (every_weaken _ _ files (λ f h. names_file f h) ok.whole)
      class file c

-- ---- of a method

module _ (m : MethodCode) (linked : IsLinked (files_of m)) (offset : ℕ) (i : Instr) (start : is_start (body_of m).code.code offset ≡ true)
    (is : instr_at (body_of m).code.code offset ≡ Some i) where
  pub operand_found : list_any (is_missing (files_of m)) (operand_classes (body_of m).pool i) ≡ false
  operand_found =
      let files = files_of m in
      let r = resolved files (unrefused files linked) _ _ m.declared.is_class in
      let test = in_method (λ m c. any_instruction (λ pc i. r.test i) c) (view.file_of m.file.now) (member_of m).name (member_of m).descriptor (view.method_of m.method.now) (view.code_of m.code.now) r.none m.declared.is_method m.declared.is_code in
      (or_parts (list_any (is_missing files) (operand_classes (body_of m).pool i)) _ (r.resolves i (no_instruction (λ pc i. r.test i) (body_of m).code offset i test start is))).0

  pub dimensions_few : too_many_dimensions (body_of m).pool i ≡ false
  dimensions_few = few_dimensions (files_of m) (unrefused (files_of m) linked) _ _ m.declared.is_class _ _ _ _ offset i m.declared.is_method m.declared.is_code start is

  pub operand_names_type : option_map_or (λ name. not (is_class_or_array name)) (named_constant (body_of m).pool i) false ≡ false
  operand_names_type = operand_type (body_of m).pool i (names_right (files_of m) (unrefused (files_of m) linked) _ _ m.declared.is_class)
