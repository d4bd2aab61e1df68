-- What linking gives of instructions: the conditions of each at the boundaries of a method's code.
use Rattle.std.proofs.Common.{◌≡◌, ℕ, zero, suc, ◌+◌, List, [], ◌∷◌, Bool, true, false, not, ◌&&◌, ◌||◌, option_map, Option, Some, None, refl, sym, ap, ◌∙◌, subst, arith}
use Rattle.std.specs.Prelude.{slice_index_or}
use Rattle.std.specs.Option.{option_map_or, is_none, option_and_then}
use Rattle.std.specs.List.{list_any, list_all}
use Rattle.std.proofs.lemmas.Bool.{false≢true, true≢false, or_parts, or_from, not-true}
use Rattle.model.specs.declared.instr.Instr.{Instr}
use Rattle.model.specs.declared.instr.Instr.TheVariants.{Invoke, InvokeInterface}
use Rattle.model.specs.declared.instr.Invocation.{Invocation}
use Rattle.model.specs.declared.instr.Invocation.TheVariants as invocation
use Rattle.model.specs.Names.{Name, name_eq, Member, constructor_name, initialiser_name}
use Rattle.model.specs.Tree.{Entry, MethodTree, CodeTree, FileTree}
use Rattle.model.specs.Pool.{method_at, interface_method_at}
use Rattle.model.specs.AccessFlags.{is_interface_class}
use Rattle.model.specs.BuiltIn.{built_in_classes}
use Rattle.model.specs.Classes.{Program, Body, name_of, class_of, code_in, with_pool, body_of, is_interface, is_subclass, is_method}
use Rattle.model.specs.Instruction.{Sized, instr_at, sized_at, wide_at, table_switch_at, lookup_switch_at}
use Rattle.model.specs.OpcodeTable.{low_form, high_form}
use Rattle.model.specs.DescriptorScan.{element_at, field_at, field_type, parameters_at, method_type}
use Rattle.model.specs.InstructionStarts.{starts_from, is_start}
use Rattle.model.specs.Profile.{unknown_opcode}
use Rattle.model.specs.CodeParts.{marked_from, decodes, any_code, any_instruction, any_instruction_in, method_operand}
use Rattle.model.specs.CodeConditions.{jump_off_boundary, unsorted_matches, local_above_max, operand_of_wrong_kind, wrong_interface_count, wrong_interface_end, constructor_not_by_special, calls_initialiser, is_class_aside, special_of_class_aside, new_of_array, too_many_dimensions, malformed_instruction, malformed_code, has_malformed_code}
use Rattle.model.specs.Resolution.{is_missing, differs, member_classes, operand_classes, superclass_missing, interface_missing, operand_class_missing, new_of_abstract, field_missing, field_of_other_kind, puts_system_stream, names_hidden_field, names_hidden_method, method_missing, method_of_other_kind, call_on_other_kind, unresolved_instruction, is_unresolved}
use Rattle.run_laws.proofs.laws.Lists.{every_weaken}
use Rattle.run_laws.proofs.laws.Found.{found_has, none_any, every_all, map_or_at}
use Rattle.run_laws.proofs.laws.Homes.{Coded, class_has, coded_of}
use Rattle.run_laws.proofs.laws.Linked.{IsCallable}
use Rattle.run_laws.proofs.laws.Unrefused.{Unrefused}
use Rattle.run_laws.proofs.laws.Decoding.{not_false, of_decoded, undecoded, all_decode, IsWellFormed}

-- ---- a condition that stands at no boundary

unmarked : (q : ℕ → Bool) (base : ℕ) (marks : List Bool) (k : ℕ) → list_any q (marked_from base marks) ≡ false
    → slice_index_or marks k false ≡ true → q (base + k) ≡ false
unmarked q base [] k h m = absurd (false≢true m)
unmarked q base (true ∷ marks) zero h m = subst (λ n. q n ≡ false) (omega arith) (or_parts (q base) _ h).0
unmarked q base (false ∷ marks) zero h m = absurd (false≢true m)
unmarked q base (true ∷ marks) (suc k) h m = subst (λ n. q n ≡ false) (omega arith) (unmarked q (suc base) marks k (or_parts (q base) _ h).1 m)
unmarked q base (false ∷ marks) (suc k) h m = subst (λ n. q n ≡ false) (omega arith) (unmarked q (suc base) marks k h m)

pub no_instruction : (test : ℕ → Instr → Bool) (c : CodeTree) (pc : ℕ) (i : Instr) → any_instruction test c ≡ false
    → is_start c.code pc ≡ true → instr_at c.code pc ≡ Some i → test pc i ≡ false
no_instruction test c pc i h start is =
    let at : ℕ → Bool = λ k. option_map_or (test k) (instr_at c.code k) false in
    let here : at pc ≡ false = subst (λ k. at k ≡ false) (omega arith) (unmarked at 0 _ pc h start) in
    sym (map_or_at (test pc) (instr_at c.code pc) false i is) ∙ here

pub no_code : (files : Program) (method : Member) (body : Body) (test : MethodTree → CodeTree → Bool) (c : Coded files method body)
    → any_code test c.home.file ≡ false → test c.method_tree c.code ≡ false
no_code files method body test c h =
    sym (map_or_at (test c.method_tree) (code_in c.method_tree.parts) false c.code c.is_code)
    ∙ found_has (λ (m : MethodTree). option_map_or (test m) (code_in m.parts) false ≡ false) (is_method c.home.file.pool method.name method.descriptor) c.home.file.methods c.method_tree
    (none_any _ c.home.file.methods h) c.home.is_declared

-- ---- the built-in classes

-- what is asked of the instructions of each class, those of Thread.run too
abbrev pub misnames : Program → FileTree → Instr → Bool
misnames files file i = operand_class_missing files file i || call_on_other_kind files file i

-- a condition that stands at no instruction, and with it none of these
pub record Resolved (files : Program) (file : FileTree) : Type 0 where
  pub super : superclass_missing files file ≡ false
  pub interfaces : interface_missing files file ≡ false
  pub test : Instr → Bool
  pub none : any_instruction_in test file ≡ false
  pub resolves : (i : Instr) → test i ≡ false → misnames files file i ≡ false

module _ (files : Program) where
  built_in_code : list_all (λ file. not (any_code unknown_opcode file || has_malformed_code files file)) built_in_classes ≡ true
  unfolding built_in_classes low_form high_form wide_at table_switch_at lookup_switch_at starts_from element_at field_at field_type parameters_at method_type
  built_in_code = refl

  formed_built_in : (file : FileTree) → not (any_code unknown_opcode file || has_malformed_code files file) ≡ true → IsWellFormed files file
  formed_built_in file h =
      let a = or_parts (any_code unknown_opcode file) _ (not-true _ h) in
      record { none = a.1; decoded = all_decode files file a.0 a.1 }

  built_in_named : list_all (λ file. not (superclass_missing files file
      || (interface_missing files file || any_instruction_in (misnames files file) file))) built_in_classes ≡ true
  unfolding built_in_classes low_form high_form wide_at table_switch_at lookup_switch_at starts_from element_at field_at field_type parameters_at method_type
  built_in_named = refl

  resolved_built_in : (file : FileTree) → not
      (superclass_missing files file || (interface_missing files file || any_instruction_in (misnames files file) file)) ≡ true
      → Resolved files file
  resolved_built_in file h =
      let a = or_parts _ _ (not-true _ h) in
      let b = or_parts _ _ a.1 in
      record { super = a.0; interfaces = b.0; test = misnames files file; none = b.1; resolves = λ i e. e }

  class_found : (file : FileTree) (i : Instr) → unresolved_instruction files file i ≡ false → operand_class_missing files file i ≡ false
  class_found file i e = (or_parts _ _ e).0

  called_rightly : (file : FileTree) (i : Instr) → unresolved_instruction files file i ≡ false → call_on_other_kind files file i ≡ false
  called_rightly file i e =
      let p = or_parts (operand_class_missing files file i) _ e in
      let q = or_parts (new_of_abstract files file i) _ p.1 in
      let r = or_parts (field_missing files file i) _ q.1 in
      let s = or_parts (field_of_other_kind files file i) _ r.1 in
      let t = or_parts (puts_system_stream files file i) _ s.1 in
      let u = or_parts (names_hidden_field files file i) _ t.1 in
      let v = or_parts (method_missing files file i) _ u.1 in
      let w = or_parts (names_hidden_method files file i) _ v.1 in
      (or_parts (method_of_other_kind files file i) _ w.1).1

  resolves_so : (file : FileTree) (i : Instr) → unresolved_instruction files file i ≡ false → misnames files file i ≡ false
  resolves_so file i e = or_from (operand_class_missing files file i) (call_on_other_kind files file i) (class_found file i e) (called_rightly file i e)

  resolved_file : (file : FileTree) → is_unresolved files file ≡ false → Resolved files file
  resolved_file file h =
      let a = or_parts _ _ h in
      let b = or_parts _ _ a.1 in
      let c = or_parts _ _ b.1 in
      let d = or_parts _ _ c.1 in
      record { super = a.0; interfaces = b.0; test = unresolved_instruction files file; none = d.1; resolves = λ i e. resolves_so file i e }

  module _ (ok : Unrefused files) where
    pub resolved : (c : Name) (file : FileTree) → class_of files c ≡ Some file → Resolved files file
    resolved c file e =
        class_has files (λ f. Resolved files f)
        (every_weaken _ _ built_in_classes (λ f h. resolved_built_in f h) (every_all _ built_in_classes built_in_named))
        (every_weaken _ _ files (λ f h. resolved_file f h) ok.resolved)
        c file e

    whole_code : (c : Name) (file : FileTree) → class_of files c ≡ Some file → IsWellFormed files file
    whole_code c file e =
        class_has files (λ f. IsWellFormed files f)
        (every_weaken _ _ built_in_classes (λ f h. formed_built_in f h) (every_all _ built_in_classes built_in_code))
        ok.code c file e

    -- ---- at an instruction of a method with code

    module _ (method : Member) (body : Body) (c : Coded files method body) (offset : ℕ) (i : Instr) (start : is_start c.code.code offset ≡ true) (is : instr_at c.code.code offset ≡ Some i) where
      pub well_formed : malformed_instruction files c.home.file c.code offset i ≡ false
      well_formed =
          let whole = whole_code method.class c.home.file c.home.is_class in
          let decoded : decodes c.code.code ≡ true = not_false _ (no_code files method body undecoded c whole.decoded) in
          let a = or_parts _ _ (no_code files method body (malformed_code files c.home.file) c whole.none) in
          let b = or_parts _ _ a.1 in
          let d = or_parts _ _ b.1 in
          no_instruction (malformed_instruction files c.home.file c.code) c.code offset i (of_decoded (malformed_instruction files c.home.file c.code) c.code decoded d.0) start is

      well_named : misnames files c.home.file i ≡ false
      well_named =
          let r = resolved method.class c.home.file c.home.is_class in
          r.resolves i
          (no_instruction (λ pc j. r.test j) c.code offset i
          (no_code files method body (λ m code. any_instruction (λ pc j. r.test j) code) c r.none) start is)

      later_conditions : (constructor_not_by_special c.home.file.pool i
          || (calls_initialiser c.home.file.pool i
          || (special_of_class_aside files c.home.file i || (new_of_array c.home.file.pool i || too_many_dimensions c.home.file.pool i))))
          ≡ false
      later_conditions =
          let a = or_parts (jump_off_boundary c.code offset i) _ well_formed in
          let b = or_parts (unsorted_matches c.code i) _ a.1 in
          let d = or_parts (local_above_max c.code i) _ b.1 in
          let f = or_parts (operand_of_wrong_kind c.home.file.pool i) _ d.1 in
          let g = or_parts (wrong_interface_count c.home.file.pool i) _ f.1 in
          (or_parts (wrong_interface_end i) _ g.1).1

      no_call : calls_initialiser c.home.file.pool i ≡ false
      no_call = (or_parts (calls_initialiser c.home.file.pool i) _ (or_parts (constructor_not_by_special c.home.file.pool i) _ later_conditions).1).0

      not_aside : special_of_class_aside files c.home.file i ≡ false
      not_aside =
          (or_parts (special_of_class_aside files c.home.file i) _
          (or_parts (calls_initialiser c.home.file.pool i) _ (or_parts (constructor_not_by_special c.home.file.pool i) _ later_conditions).1).1).0

      not_initialiser : (named : Member) → method_operand c.home.file.pool i ≡ Some named → name_eq named.name initialiser_name ≡ false
      not_initialiser named e = sym (map_or_at (λ (m : Member). name_eq m.name initialiser_name) (method_operand c.home.file.pool i) false named e) ∙ no_call

    both_not : (a b : Bool) → (not a && not b) ≡ false → a ≡ false → b ≡ true
    both_not true b h e = absurd (true≢false e)
    both_not false true h e = refl
    both_not false false h e = absurd (true≢false h)

    instr_of : (code : List ℕ) (offset : ℕ) (i : Instr) (size : ℕ) → sized_at code offset ≡ Some (i, size) → instr_at code offset ≡ Some i
    instr_of code offset i size e = ap (λ o. option_map (λ (s : Sized). s.0) o) e

    -- of the body as it is found
    on_body : (P : Body → Type 0) (method : Member) (body : Body) → body_of files method ≡ Some body
        → ((c : Coded files method body) → P (with_pool c.home.file.pool c.code)) → P body
    on_body P method body e f = let c = coded_of files method body e in subst P (sym c.is_body) (f c)

    pub callable : (method : Member) (body : Body) (offset size : ℕ) (how : Invocation) (index : ℕ) (named : Member)
        → body_of files method ≡ Some body → is_start body.code.code offset ≡ true
        → sized_at body.code.code offset ≡ Some (Invoke how index, size) → method_at body.pool index ≡ Some named → IsCallable named
    callable method body offset size how index named e =
        on_body (λ b. is_start b.code.code offset ≡ true → sized_at b.code.code offset ≡ Some (Invoke how index, size) → method_at b.pool index ≡ Some named → IsCallable named) method body e
        (λ c start is m. not_initialiser method body c offset (Invoke how index) start (instr_of c.code.code offset (Invoke how index) size is) named m)

    pub callable_interface : (method : Member) (body : Body) (offset size index count last : ℕ) (named : Member)
        → body_of files method ≡ Some body → is_start body.code.code offset ≡ true
        → sized_at body.code.code offset ≡ Some (InvokeInterface index count last, size) → interface_method_at body.pool index ≡ Some named
        → IsCallable named
    callable_interface method body offset size index count last named e =
        on_body (λ b. is_start b.code.code offset ≡ true → sized_at b.code.code offset ≡ Some (InvokeInterface index count last, size) → interface_method_at b.pool index ≡ Some named → IsCallable named) method body e
        (λ c start is m. not_initialiser method body c offset (InvokeInterface index count last) start (instr_of c.code.code offset (InvokeInterface index count last) size is) named m)

    pub special : (method : Member) (body : Body) (offset size index : ℕ) (named : Member) → body_of files method ≡ Some body
        → is_start body.code.code offset ≡ true → sized_at body.code.code offset ≡ Some (Invoke invocation.Special index, size)
        → method_at body.pool index ≡ Some named → name_eq named.name constructor_name ≡ false
        → is_subclass files method.class named.class ≡ true
    special method body offset size index named e =
        on_body (λ b. is_start b.code.code offset ≡ true → sized_at b.code.code offset ≡ Some (Invoke invocation.Special index, size) → method_at b.pool index ≡ Some named → name_eq named.name constructor_name ≡ false → is_subclass files method.class named.class ≡ true) method body e
        (λ c start is m other.
        let aside = not_aside method body c offset (Invoke invocation.Special index) start (instr_of c.code.code offset (Invoke invocation.Special index) size is) in
        let none : is_class_aside files c.home.file named ≡ false = sym (map_or_at (is_class_aside files c.home.file) (method_at c.home.file.pool index) false named m) ∙ aside in
        subst (λ n. is_subclass files n named.class ≡ true) c.home.named
        (both_not (name_eq named.name constructor_name) (is_subclass files (name_of c.home.file) named.class) none other))

    no_interface : (o : Option FileTree) → option_map_or (λ (f : FileTree). differs false (is_interface_class f)) o false ≡ false
        → option_map_or is_interface_class o false ≡ false
    no_interface None h = refl
    no_interface (Some f) h = h

    an_interface : (o : Option FileTree) → is_none o ≡ false
        → option_map_or (λ (f : FileTree). differs true (is_interface_class f)) o false ≡ false
        → option_map_or is_interface_class o false ≡ true
    an_interface None n h = absurd (true≢false n)
    an_interface (Some f) n h = not_false (is_interface_class f) h
      where
        not_false : (b : Bool) → not b ≡ false → b ≡ true
        not_false true h = refl
        not_false false h = sym h

    -- the class of a named method
    of_named : (o : Option Member) (named : Member) (test : FileTree → Bool) → o ≡ Some named
        → option_map_or test (option_and_then (λ (m : Member). class_of files m.class) o) false ≡ false
        → option_map_or test (class_of files named.class) false ≡ false
    of_named o named test e h = subst (λ x. option_map_or test (option_and_then (λ (m : Member). class_of files m.class) x) false ≡ false) e h

    found_class : (pool : List Entry) (index count last : ℕ) (file : FileTree) (named : Member) → file.pool ≡ pool
        → interface_method_at pool index ≡ Some named → operand_class_missing files file (InvokeInterface index count last) ≡ false
        → is_none (class_of files named.class) ≡ false
    found_class pool index count last file named p m h =
        let in_pool : list_any (is_missing files) (member_classes (interface_method_at pool index)) ≡ false =
        subst (λ q. list_any (is_missing files) (operand_classes q (InvokeInterface index count last)) ≡ false) p h in
        let named_so : list_any (is_missing files) (member_classes (Some named)) ≡ false =
        subst (λ o. list_any (is_missing files) (member_classes o) ≡ false) m in_pool in
        (or_parts (is_none (class_of files named.class)) _ named_so).0

    pub calls_class : (method : Member) (body : Body) (offset size : ℕ) (how : Invocation) (index : ℕ) (named : Member)
        → body_of files method ≡ Some body → is_start body.code.code offset ≡ true
        → sized_at body.code.code offset ≡ Some (Invoke how index, size) → method_at body.pool index ≡ Some named
        → is_interface files named.class ≡ false
    calls_class method body offset size how index named e =
        on_body (λ b. is_start b.code.code offset ≡ true → sized_at b.code.code offset ≡ Some (Invoke how index, size) → method_at b.pool index ≡ Some named → is_interface files named.class ≡ false) method body e
        (λ c start is m.
        let h = or_parts (operand_class_missing files c.home.file (Invoke how index)) (call_on_other_kind files c.home.file (Invoke how index)) (well_named method body c offset (Invoke how index) start (instr_of c.code.code offset (Invoke how index) size is)) in
        no_interface (class_of files named.class) (of_named (method_at c.home.file.pool index) named (λ (f : FileTree). differs false (is_interface_class f)) m (not_wanted how index c.home.file h.1)))
      where
        not_wanted : (how : Invocation) (index : ℕ) (file : FileTree) → call_on_other_kind files file (Invoke how index) ≡ false
            → option_map_or (λ (f : FileTree). differs false (is_interface_class f))
            (option_and_then (λ (m : Member). class_of files m.class) (method_at file.pool index)) false ≡ false
        not_wanted how index file h = h

    pub calls_interface : (method : Member) (body : Body) (offset size index count last : ℕ) (named : Member)
        → body_of files method ≡ Some body → is_start body.code.code offset ≡ true
        → sized_at body.code.code offset ≡ Some (InvokeInterface index count last, size) → interface_method_at body.pool index ≡ Some named
        → is_interface files named.class ≡ true
    calls_interface method body offset size index count last named e =
        on_body (λ b. is_start b.code.code offset ≡ true → sized_at b.code.code offset ≡ Some (InvokeInterface index count last, size) → interface_method_at b.pool index ≡ Some named → is_interface files named.class ≡ true) method body e
        (λ c start is m.
        let h = or_parts (operand_class_missing files c.home.file (InvokeInterface index count last)) (call_on_other_kind files c.home.file (InvokeInterface index count last)) (well_named method body c offset (InvokeInterface index count last) start (instr_of c.code.code offset (InvokeInterface index count last) size is)) in
        an_interface (class_of files named.class) (found_class c.home.file.pool index count last c.home.file named refl m h.0)
        (of_named (interface_method_at c.home.file.pool index) named (λ (f : FileTree). differs true (is_interface_class f)) m h.1))
