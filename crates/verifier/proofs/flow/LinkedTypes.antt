-- What linking gives of the types that a method's descriptor and its handlers name: their classes are found.
use Rattle.std.proofs.Common.{◌≡◌, List, [], ◌∷◌, map, flat_map, Bool, true, false, not, ◌&&◌, ◌||◌, is_some, Option, Some, None, refl, sym, ap, ◌∙◌, subst, cond}
use Rattle.std.specs.Prelude.{◌==◌, unwrap_or}
use Rattle.std.specs.Option.{option_map_or}
use Rattle.std.specs.List.{list_any, list_all, AllByRecursion}
use Rattle.std.proofs.lemmas.Bool.{false≢true, and_parts, or_parts, or_from, not-true}
use Rattle.std.proofs.lemmas.List.Folds.{list_any-append}
use Rattle.model.specs.declared.class_file.ExceptionEntry.{ExceptionEntry}
use Rattle.model.specs.Names.{Name, java_lang_throwable}
use Rattle.model.specs.Tree.{Entry, FieldTree, MethodPart, CodeOf, SkippedOfMethod, MethodTree, CodeTree, FileTree}
use Rattle.model.specs.Spelling.{entry_at}
use Rattle.model.specs.Spells.{IsWhole}
use Rattle.model.specs.Pool.{class_name_at}
use Rattle.model.specs.Conditions.{text_at, names_utf8, names_class, entry_indices, exception_indices, skipped_indices, method_part_indices, field_indices, method_indices}
use Rattle.model.specs.BuiltIn.{built_in_classes}
use Rattle.model.specs.Classes.{Program, class_of, is_method, declared_in, code_in}
use Rattle.model.specs.DescriptorScan.{element_at, field_at, field_type, parameters_at, method_type}
use Rattle.model.specs.DescriptorParts.{classes_in, is_array_class}
use Rattle.model.specs.ReferenceTypes.{ClassType}
use Rattle.model.specs.DescribedTypes.{reference_declared, field_declared, type_named}
use Rattle.model.specs.Hierarchy.{catch_class, is_no_throwable, catches_no_throwable, has_bad_hierarchy, in_cycle, extends_interface, extends_final, implements_class, interface_below_other, redeclares, final_redeclared, static_redeclared, instance_redeclared, redeclared_in_other_package, redeclared_as_private}
use Rattle.model.specs.Resolution.{is_missing, superclass_missing, interface_missing, catch_type_missing, is_missing_catch, declared_descriptors, declared_class_missing, is_unresolved}
use Rattle.model.specs.CodeParts.{any_code}
use Rattle.model.specs.Typing.{caught_class}
use Rattle.types.specs.described_types.Described.{type_missing}
use Rattle.run_laws.proofs.laws.Lists.{every_weaken}
use Rattle.run_laws.proofs.laws.Found.{found_has, none_any, every_all, every_both, map_or_at}
use Rattle.run_laws.proofs.laws.Homes.{class_has}
use Rattle.run_laws.proofs.laws.Unrefused.{Unrefused, unrefused_of}
use Rattle.run_laws.proofs.laws.LinkedClasses.{entry_right, has_class_name}
use Rattle.types.specs.declared.method_code.declaration.MethodCode.{MethodCode}
use Rattle.types.specs.method_code.Linked.{IsLinked}
use Rattle.types.specs.method_code.View.{files_of, member_of, body_of}

pub unrefused : (files : Program) → IsLinked files → Unrefused files
unrefused files linked = unrefused_of linked.0 files linked.1.spelled linked.1.no_refusal

some_at : {A : Type 0} (o : Option A) → is_some o ≡ true → (x : A) × (o ≡ Some x)
some_at None h = absurd (false≢true h)
some_at (Some x) h = (x, refl)

-- ---- the descriptor

any_flat : {A B : Type 0} (q : B → Bool) (f : A → List B) (xs : List A) → list_any q (flat_map f xs) ≡ false
    → list_any (λ x. list_any q (f x)) xs ≡ false
any_flat q f [] h = refl
any_flat q f (x ∷ xs) h =
    let p = or_parts (list_any q (f x)) _ (sym (list_any-append q (f x) (flat_map f xs)) ∙ h) in
    or_from (list_any q (f x)) _ p.0 (any_flat q f xs p.1)

any_mapped : {A B : Type 0} (q : B → Bool) (f : A → B) (xs : List A) → list_any q (map f xs) ≡ false
    → AllByRecursion (λ x. q (f x) ≡ false) xs
any_mapped q f [] h = tt
any_mapped q f (x ∷ xs) h = let p = or_parts (q (f x)) _ h in (p.0, any_mapped q f xs p.1)

module _ (files : Program) where
  built_in_described : list_all (λ file. not (declared_class_missing files file)) built_in_classes ≡ true
  unfolding built_in_classes element_at field_at field_type parameters_at method_type
  built_in_described = refl

  described_file : (file : FileTree) → is_unresolved files file ≡ false → declared_class_missing files file ≡ false
  described_file file h =
      let a = or_parts (superclass_missing files file) _ h in
      let b = or_parts (interface_missing files file) _ a.1 in
      let c = or_parts (catch_type_missing files file) _ b.1 in
      (or_parts (declared_class_missing files file) _ c.1).0

  pub method_described : Unrefused files → (class name descriptor : Name) (file : FileTree) (m : MethodTree)
      → class_of files class ≡ Some file → declared_in file name descriptor ≡ Some m
      → list_any (is_missing files) (classes_in (text_at file.pool m.descriptor)) ≡ false
  method_described ok class name descriptor file m c d =
      let none : declared_class_missing files file ≡ false =
      class_has files (λ f. declared_class_missing files f ≡ false)
      (every_weaken _ _ built_in_classes (λ f h. not-true (declared_class_missing files f) h) (every_all _ built_in_classes built_in_described))
      (every_weaken _ _ files (λ f h. described_file f h) ok.resolved)
      class file c in
      let each = any_flat (is_missing files) classes_in (declared_descriptors file) none in
      let methods = (or_parts (list_any (λ d. list_any (is_missing files) (classes_in d)) (map (λ (f : FieldTree). text_at file.pool f.descriptor) file.fields)) _
      (sym (list_any-append (λ d. list_any (is_missing files) (classes_in d)) (map (λ (f : FieldTree). text_at file.pool f.descriptor) file.fields) (map (λ (m : MethodTree). text_at file.pool m.descriptor) file.methods)) ∙ each)).1 in
      found_has (λ (m : MethodTree). list_any (is_missing files) (classes_in (text_at file.pool m.descriptor)) ≡ false) (is_method file.pool name descriptor) file.methods m
      (any_mapped (λ d. list_any (is_missing files) (classes_in d)) (λ (m : MethodTree). text_at file.pool m.descriptor) file.methods methods) d

  -- ---- handlers

  abbrev is_lost : List Entry → ExceptionEntry → Bool
  is_lost pool e = type_missing files (type_named (caught_class pool e))

  abbrev has_lost : FileTree → Bool
  has_lost file = any_code (λ m c. list_any (is_lost file.pool) c.exceptions) file

  built_in_caught : list_all (λ file. not (has_lost file)) built_in_classes ≡ true
  unfolding built_in_classes
  built_in_caught = refl

  throwable_there : is_missing files java_lang_throwable ≡ false
  unfolding built_in_classes
  throwable_there = refl

  no_array : (name : Name) → is_array_class name ≡ false → type_missing files (type_named name) ≡ is_missing files name
  no_array [] h = refl
  no_array (b ∷ bytes) h = ap (λ t. type_missing files (cond t (reference_declared (b ∷ bytes) (field_declared (b ∷ bytes))) (ClassType (b ∷ bytes)))) h

  -- an entry that names a class
  named_found : (pool : List Entry) (e : ExceptionEntry) (name : Name) → class_name_at pool e.catch_type ≡ Some name
      → (e.catch_type == 0) ≡ false
      → option_map_or (is_missing_catch files) (catch_class pool e) false ≡ false
      → option_map_or (is_no_throwable files) (catch_class pool e) false ≡ false → is_lost pool e ≡ false
  named_found pool e name is some found kind =
      let caught : catch_class pool e ≡ Some name = ap (λ t. cond t None (class_name_at pool e.catch_type)) some ∙ is in
      let class : caught_class pool e ≡ name = ap (λ t. cond t java_lang_throwable (unwrap_or (class_name_at pool e.catch_type) [])) some ∙ ap (λ o. unwrap_or o []) is in
      let plain : is_array_class name ≡ false = (or_parts (is_array_class name) _ (sym (map_or_at (is_no_throwable files) (catch_class pool e) false name caught) ∙ kind)).0 in
      let there : (not (is_array_class name) && is_missing files name) ≡ false = sym (map_or_at (is_missing_catch files) (catch_class pool e) false name caught) ∙ found in
      ap (λ n. type_missing files (type_named n)) class ∙ no_array name plain ∙ sym (ap (λ t. not t && is_missing files name) plain) ∙ there

  caught_found : (pool : List Entry) (e : ExceptionEntry) → list_all (entry_indices pool) pool ≡ true → exception_indices pool e ≡ true
      → option_map_or (is_missing_catch files) (catch_class pool e) false ≡ false
      → option_map_or (is_no_throwable files) (catch_class pool e) false ≡ false → is_lost pool e ≡ false
  caught_found pool e entries index found kind = by (e.catch_type == 0) refl
    where
      by : (z : Bool) → (e.catch_type == 0) ≡ z → is_lost pool e ≡ false
      by true z = ap (λ t. type_missing files (type_named (cond t java_lang_throwable (unwrap_or (class_name_at pool e.catch_type) [])))) z ∙ throwable_there
      by false z =
          let named : names_class pool e.catch_type ≡ true = sym (ap (λ t. t || names_class pool e.catch_type) z) ∙ index in
          let n = some_at (class_name_at pool e.catch_type) (has_class_name pool (entry_at pool e.catch_type) named (entry_right (entry_indices pool) pool e.catch_type refl entries)) in
          named_found pool e n.0 n.1 z found kind

  -- of each entry of a code
  entries_found : (pool : List Entry) (es : List ExceptionEntry) → list_all (entry_indices pool) pool ≡ true
      → list_all (exception_indices pool) es ≡ true
      → list_any (λ e. option_map_or (is_missing_catch files) (catch_class pool e) false) es ≡ false
      → list_any (λ e. option_map_or (is_no_throwable files) (catch_class pool e) false) es ≡ false → list_any (is_lost pool) es ≡ false
  entries_found pool [] entries index found kind = refl
  entries_found pool (e ∷ es) entries index found kind =
      let i = and_parts (exception_indices pool e) _ index in
      let f = or_parts (option_map_or (is_missing_catch files) (catch_class pool e) false) _ found in
      let k = or_parts (option_map_or (is_no_throwable files) (catch_class pool e) false) _ kind in
      or_from (is_lost pool e) _ (caught_found pool e entries i.0 f.0 k.0) (entries_found pool es entries i.1 f.1 k.1)

  -- the indices of the code among the parts
  code_right : (pool : List Entry) (parts : List MethodPart) (c : CodeTree) → list_all (method_part_indices pool) parts ≡ true
      → code_in parts ≡ Some c → list_all (exception_indices pool) c.exceptions ≡ true
  code_right pool [] c h e = absurd cc
  code_right pool (CodeOf name code ∷ parts) c h e =
      let same : code ≡ c = cc in
      let part = and_parts (method_part_indices pool (CodeOf name code)) _ h in
      let right = and_parts (names_utf8 pool name) _ part.0 in
      subst (λ (c : CodeTree). list_all (exception_indices pool) c.exceptions ≡ true) same (and_parts (list_all (exception_indices pool) code.exceptions) _ right.1).0
  code_right pool (SkippedOfMethod a ∷ parts) c h e = code_right pool parts c (and_parts (skipped_indices pool a) _ h).1 e

  method_found : (pool : List Entry) (m : MethodTree) → list_all (entry_indices pool) pool ≡ true → method_indices pool m ≡ true
      → option_map_or (λ (c : CodeTree). list_any (λ e. option_map_or (is_missing_catch files) (catch_class pool e) false) c.exceptions)
      (code_in m.parts) false ≡ false
      → option_map_or (λ (c : CodeTree). list_any (λ e. option_map_or (is_no_throwable files) (catch_class pool e) false) c.exceptions)
      (code_in m.parts) false ≡ false
      → option_map_or (λ (c : CodeTree). list_any (is_lost pool) c.exceptions) (code_in m.parts) false ≡ false
  method_found pool m entries index found kind = by (code_in m.parts) refl
    where
      by : (o : Option CodeTree) → code_in m.parts ≡ o
          → option_map_or (λ (c : CodeTree). list_any (is_lost pool) c.exceptions) (code_in m.parts) false ≡ false
      by None q = ap (λ o. option_map_or (λ (c : CodeTree). list_any (is_lost pool) c.exceptions) o false) q
      by (Some c) q =
          let named = and_parts (names_utf8 pool m.name) _ index in
          let described = and_parts (names_utf8 pool m.descriptor) _ named.1 in
          map_or_at (λ (c : CodeTree). list_any (is_lost pool) c.exceptions) (code_in m.parts) false c q
          ∙ entries_found pool c.exceptions entries (code_right pool m.parts c described.1 q)
          (sym (map_or_at (λ (c : CodeTree). list_any (λ e. option_map_or (is_missing_catch files) (catch_class pool e) false) c.exceptions) (code_in m.parts) false c q) ∙ found)
          (sym (map_or_at (λ (c : CodeTree). list_any (λ e. option_map_or (is_no_throwable files) (catch_class pool e) false) c.exceptions) (code_in m.parts) false c q) ∙ kind)

  methods_found : (pool : List Entry) (ms : List MethodTree) → list_all (entry_indices pool) pool ≡ true
      → list_all (method_indices pool) ms ≡ true
      → list_any (λ (m : MethodTree). option_map_or
      (λ (c : CodeTree). list_any (λ e. option_map_or (is_missing_catch files) (catch_class pool e) false) c.exceptions) (code_in m.parts)
      false) ms ≡ false
      → list_any (λ (m : MethodTree). option_map_or
      (λ (c : CodeTree). list_any (λ e. option_map_or (is_no_throwable files) (catch_class pool e) false) c.exceptions) (code_in m.parts)
      false) ms ≡ false
      → list_any (λ (m : MethodTree). option_map_or (λ (c : CodeTree). list_any (is_lost pool) c.exceptions) (code_in m.parts) false) ms
      ≡ false
  methods_found pool [] entries index found kind = refl
  methods_found pool (m ∷ ms) entries index found kind =
      let i = and_parts (method_indices pool m) _ index in
      let f = or_parts (option_map_or (λ (c : CodeTree). list_any (λ e. option_map_or (is_missing_catch files) (catch_class pool e) false) c.exceptions) (code_in m.parts) false) _ found in
      let k = or_parts (option_map_or (λ (c : CodeTree). list_any (λ e. option_map_or (is_no_throwable files) (catch_class pool e) false) c.exceptions) (code_in m.parts) false) _ kind in
      or_from _ _ (method_found pool m entries i.0 f.0 k.0) (methods_found pool ms entries i.1 f.1 k.1)

  caught_file : (file : FileTree) → IsWhole file → is_unresolved files file ≡ false → has_bad_hierarchy files file ≡ false
      → has_lost file ≡ false
  caught_file file whole resolved ordered =
      let entries = and_parts (list_all (entry_indices file.pool) file.pool) _ whole.indices in
      let this = and_parts (names_class file.pool file.this_class) _ entries.1 in
      let above = and_parts (names_class file.pool file.super_class) _ this.1 in
      let interfaces = and_parts (list_all (names_class file.pool) file.interfaces) _ above.1 in
      let fields = and_parts (list_all (field_indices file.pool) file.fields) _ interfaces.1 in
      let methods = and_parts (list_all (method_indices file.pool) file.methods) _ fields.1 in
      let a = or_parts (superclass_missing files file) _ resolved in
      let b = or_parts (interface_missing files file) _ a.1 in
      let c = or_parts (catch_type_missing files file) _ b.1 in
      methods_found file.pool file.methods entries.0 methods.0 c.0 (last file ordered)
    where
      last : (file : FileTree) → has_bad_hierarchy files file ≡ false → catches_no_throwable files file ≡ false
      last file h =
          let a = or_parts (in_cycle files file) _ h in
          let b = or_parts (extends_interface files file) _ a.1 in
          let c = or_parts (extends_final files file) _ b.1 in
          let d = or_parts (implements_class files file) _ c.1 in
          let e = or_parts (interface_below_other files file) _ d.1 in
          let f = or_parts (redeclares final_redeclared files file) _ e.1 in
          let g = or_parts (redeclares static_redeclared files file) _ f.1 in
          let i = or_parts (redeclares instance_redeclared files file) _ g.1 in
          let j = or_parts (redeclares redeclared_in_other_package files file) _ i.1 in
          (or_parts (redeclares redeclared_as_private files file) _ j.1).1

  pub all_caught : Unrefused files → (class name descriptor : Name) (file : FileTree) (m : MethodTree) (code : CodeTree)
      → class_of files class ≡ Some file → declared_in file name descriptor ≡ Some m → code_in m.parts ≡ Some code
      → AllByRecursion (λ e. type_missing files (type_named (caught_class file.pool e)) ≡ false) code.exceptions
  all_caught ok class name descriptor file m code c d q =
      let none : has_lost file ≡ false =
      class_has files (λ f. has_lost f ≡ false)
      (every_weaken _ _ built_in_classes (λ f h. not-true (has_lost f) h) (every_all _ built_in_classes built_in_caught))
      (every_weaken _ _ files (λ f h. caught_file f h.0 h.1.0 h.1.1) (every_both _ _ files ok.whole (every_both _ _ files ok.resolved ok.hierarchy)))
      class file c in
      let its : option_map_or (λ (c : CodeTree). list_any (is_lost file.pool) c.exceptions) (code_in m.parts) false ≡ false =
      found_has (λ (m : MethodTree). option_map_or (λ (c : CodeTree). list_any (is_lost file.pool) c.exceptions) (code_in m.parts) false ≡ false) (is_method file.pool name descriptor) file.methods m
      (none_any (λ (m : MethodTree). option_map_or (λ (c : CodeTree). list_any (is_lost file.pool) c.exceptions) (code_in m.parts) false) file.methods none) d in
      none_any (is_lost file.pool) code.exceptions (sym (map_or_at (λ (c : CodeTree). list_any (is_lost file.pool) c.exceptions) (code_in m.parts) false code q) ∙ its)

-- ---- of a method

module _ (m : MethodCode) (linked : IsLinked (files_of m)) where
  pub descriptor_found : list_any (is_missing (files_of m)) (classes_in (member_of m).descriptor) ≡ false
  descriptor_found = method_described (files_of m) (unrefused (files_of m) linked) _ _ _ _ _ m.declared.is_class m.declared.is_method

  pub handlers_found : AllByRecursion (λ e. type_missing (files_of m) (type_named (caught_class (body_of m).pool e))
      ≡ false) (body_of m).code.exceptions
  handlers_found = all_caught (files_of m) (unrefused (files_of m) linked) _ _ _ _ _ _ m.declared.is_class m.declared.is_method m.declared.is_code
