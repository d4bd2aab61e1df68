-- What linking gives of methods: how many words calls take, and which methods have code.
use Rattle.std.proofs.Common.{◌≡◌, ◌∙◌, ℕ, ◌+◌, ◌<◌, ◌≤◌, ◌^◌, List, [], ◌∷◌, ◌++◌, length, map, take, Bool, true, false, not, ◌&&◌, ◌||◌, ◌==◌, if◌then◌else◌, cond, count_by, Option, Some, None, is_some, refl, sym, ap, subst, arith}
use Rattle.std.specs.Prelude.{slice_get, nat_le, nat_lt, unwrap_or}
use Rattle.std.specs.List.{list_all, sum_by}
use Rattle.std.specs.Option.{option_and_then, option_map, option_map_or}
use Rattle.std.proofs.lemmas.Bool.{false≢true, true≢false, and_parts, and_from, eqb-true}
use Rattle.std.proofs.lemmas.Bool.Decides.{nat_tests}
use Rattle.std.proofs.lemmas.List.{length-map}
use Rattle.std.proofs.lemmas.List.Sums.{sum_by-cons}
use Rattle.std.proofs.lemmas.Option.{slice_get_within}
use Rattle.model.specs.Tree.{Entry, MethodPart, CodeOf, SkippedOfMethod, CodeTree, MethodTree, FileTree}
use Rattle.model.specs.Spells.{IsWhole}
use Rattle.model.specs.Conditions.{is_code_part, has_code_by_flags, text_at, slots_fit, is_method_described, is_field_described, entry_descriptors, field_constants}
use Rattle.model.specs.AccessFlags.{is_static_method, is_native_method, is_abstract_method}
use Rattle.model.specs.Descriptors.{ElementType, Byte, Char, Double, Float, Int, Long, Object, Short, Boolean, FieldType, MethodType, element_slots, slots, parameter_slots}
use Rattle.model.specs.DescriptorScan.{element_at, field_at, field_type, parameters_at, method_type}
use Rattle.model.specs.DescribedTypes.{declared_of}
use Rattle.model.specs.BuiltIn.{built_in_classes}
use Rattle.model.specs.Spelling.{is_static}
use Rattle.model.specs.Names.{Member}
use Rattle.model.specs.Calls.{is_one}
use Rattle.model.specs.BuiltInMethods as model
use Rattle.model.specs.BuiltInMethods.{built_in_method}
use Rattle.model.specs.Classes.{Program, Body, classes_of, code_in, with_pool, body_in, body_of}
use Rattle.types.specs.method_code.Linked.{IsLinked}
use Rattle.hierarchy.specs.Places.{class_at}
use Rattle.hierarchy.proofs.Indices.{count_behind}
use Rattle.run_laws.proofs.laws.Found.{every_all}
use Rattle.run_laws.proofs.laws.Lists.{every_append, every_weaken, every_at}
use Rattle.run_laws.proofs.laws.Unrefused.{unrefused_of}
use Rattle.linker.proofs.field_links.RowLaws.{Pairs, pair_pushed}
use Rattle.linked_code.specs.declared.method.BuiltInMethod.{BuiltInMethod}
use Rattle.linked_code.specs.declared.method.BuiltInMethod.TheVariants as method
use Rattle.linked_code.specs.Methods.{built_in_of}
use Rattle.linked_code.specs.Numbers.{methods_of}
use Rattle.method_tables.specs.declared.method_links.call.FrameCode.{FrameCode}
use Rattle.method_tables.specs.declared.method_links.call.MethodCall.{MethodCall}
use Rattle.method_tables.specs.method_links.Calls.{IsCallOf, IsTold, frame_needs, body_needs}
use Rattle.method_tables.specs.method_links.Methods as method_links
use Rattle.method_tables.specs.method_links.Methods.{member_of, member_at}
use Rattle.method_tables.proofs.method_links.Lists.{inner}
use Rattle.method_tables.proofs.method_links.Numbering.{member_is}
use Rattle.method_tables.proofs.method_links.ByName.{class_found, method_in_class, method_found}
use Rattle.linked_program.specs.method_rows.Rows.{IsKind, IsMethodRow, IsRowIf, AreMethodRows}
use Rattle.linked_program.specs.declared.method_rows.kind.MethodKind.{MethodKind}
use Rattle.linked_program.specs.declared.method_rows.kind.MethodKind.TheVariants as kind
use Rattle.linked_program.specs.declared.method_rows.kind.MethodRow.{MethodRow}

-- ---- a test of each method

abbrev is_concrete_with_code : MethodTree → Bool
is_concrete_with_code m = not (is_some (code_in m.parts) && is_abstract_method m)

abbrev pub is_fitting : List Entry → MethodTree → Bool
is_fitting pool m = is_method_described pool m && is_concrete_with_code m

abbrev are_fitting : FileTree → Bool
are_fitting file = list_all (is_fitting file.pool) file.methods

built_in_fitting : list_all are_fitting built_in_classes ≡ true
unfolding built_in_classes method_type parameters_at field_at field_type element_at
built_in_fitting = refl

uncoded : (parts : List MethodPart) → count_by is_code_part parts ≡ 0 → is_some (code_in parts) ≡ false
uncoded [] e = refl
uncoded (CodeOf name code ∷ parts) e = absurd (omega (arith, e, sum_by-cons (λ p. cond (is_code_part p) 1 0) (CodeOf name code) parts))
uncoded (SkippedOfMethod a ∷ parts) e = uncoded parts (omega (arith, e))

concrete : (native abstract : Bool) (parts : List MethodPart) → (count_by is_code_part parts == (if not (native || abstract) then 1 else 0)) ≡ true → not (is_some (code_in parts) && abstract) ≡ true
concrete native false parts e = none (is_some (code_in parts))
  where
    none : (b : Bool) → not (b && false) ≡ true
    none true = refl
    none false = refl
concrete true true parts e = ap (λ b. not (b && true)) (uncoded parts (eqb-true (count_by is_code_part parts) 0 e))
concrete false true parts e = ap (λ b. not (b && true)) (uncoded parts (eqb-true (count_by is_code_part parts) 0 e))

both_all : (pool : List Entry) (ms : List MethodTree) → list_all (is_method_described pool) ms ≡ true → list_all has_code_by_flags ms ≡ true → list_all (is_fitting pool) ms ≡ true
both_all pool [] d h = refl
both_all pool (m ∷ ms) d h =
    let described = and_parts (is_method_described pool m) _ d in
    let coded = and_parts (has_code_by_flags m) _ h in
    and_from _ _ (and_from _ _ described.0 (concrete (is_native_method m) (is_abstract_method m) m.parts coded.0)) (both_all pool ms described.1 coded.1)

file_fitting : (file : FileTree) → IsWhole file → are_fitting file ≡ true
file_fitting file whole =
    let members = and_parts (list_all (entry_descriptors file.pool) file.pool) _ whole.descriptors in
    let methods = and_parts (list_all (is_field_described file.pool) file.fields) _ members.1 in
    let codes = and_parts (list_all (field_constants file.pool) file.fields) _ whole.attributes in
    both_all file.pool file.methods methods.1 codes.1

-- ---- how many parameters a method has

element_takes : (e : ElementType) → 1 ≤ element_slots e
element_takes Byte = omega arith
element_takes Char = omega arith
element_takes Double = omega arith
element_takes Float = omega arith
element_takes Int = omega arith
element_takes Long = omega arith
element_takes (Object name) = omega arith
element_takes Short = omega arith
element_takes Boolean = omega arith

takes : (f : FieldType) → 1 ≤ slots f
takes f = by (f.dimensions == 0)
  where
    by : (b : Bool) → 1 ≤ (if b then element_slots f.element else 1)
    by true = element_takes f.element
    by false = omega arith

few_parameters : (ps : List FieldType) → length ps ≤ sum_by slots ps
few_parameters [] = omega arith
few_parameters (p ∷ ps) = omega (arith, takes p, few_parameters ps, sum_by-cons slots p ps)

not_over : (m n : ℕ) → nat_lt m n ≡ false → n ≤ m
not_over m n h = grind (arith, nat_tests)

within : (m n : ℕ) → nat_le n m ≡ true → n ≤ m
within m n h = grind (arith, nat_tests)

few_operands : (flags : ℕ) (o : Option MethodType) → slots_fit flags (option_map parameter_slots o) ≡ true
    → length (option_map_or (λ (t : MethodType). map declared_of t.parameters) o []) + (if is_static flags then 0 else 1) ≤ 255
few_operands flags None h = absurd (false≢true h)
few_operands flags (Some t) h = by (is_static flags) h
  where
    by : (static : Bool) → nat_le (if static then parameter_slots t else parameter_slots t + 1) 255 ≡ true → length (map declared_of t.parameters) + (if static then 0 else 1) ≤ 255
    by true e = omega (arith, length-map t.parameters declared_of, few_parameters t.parameters, within 255 (parameter_slots t) e)
    by false e = omega (arith, length-map t.parameters declared_of, few_parameters t.parameters, within 255 (parameter_slots t + 1) e)

-- ---- the facts, of a method by its place

not_both : (a b : Bool) → not (a && b) ≡ true → a ≡ true → b ≡ false
not_both true true h e = absurd (false≢true h)
not_both true false h e = refl
not_both false b h e = absurd (false≢true e)

pub class_fits : (files : Program) → IsLinked files → (class : ℕ) (file : FileTree) → class_at files class ≡ Some file → class < 2 ^ 16
class_fits files linked class file c =
    let few : length files ≤ 65000 = not_over 65000 (length files) (unrefused_of linked.0 files linked.1.spelled linked.1.no_refusal).files_fit in
    omega (arith, few, count_behind files, slice_get_within (classes_of files) class file c)

module _ (files : Program) (linked : IsLinked files) (class k : ℕ) (file : FileTree) (m : MethodTree) (c : class_at files class ≡ Some file) (s : slice_get file.methods k ≡ Some m) where
  fitting : is_fitting file.pool m ≡ true
  fitting =
      let whole = (unrefused_of linked.0 files linked.1.spelled linked.1.no_refusal).whole in
      let each = every_append (λ (f : FileTree). are_fitting f ≡ true) built_in_classes files (every_all are_fitting built_in_classes built_in_fitting) (every_weaken IsWhole (λ f. are_fitting f ≡ true) files file_fitting whole) in
      every_at (λ (x : MethodTree). is_fitting file.pool x ≡ true) file.methods k m (every_all (is_fitting file.pool) file.methods (every_at (λ (f : FileTree). are_fitting f ≡ true) (classes_of files) class file each c)) s

  abbrev member : Member
  member = member_of file m

  is_so : (test : MethodTree → Bool) → is_one test files member ≡ test m
  is_so test = ap (λ o. option_map_or test o false) (method_found files linked class k file m c s)

  pub operands_fit : (call : MethodCall) → IsCallOf files (member_of file m) call → call.operands < 2 ^ 8
  operands_fit call told =
      let few = few_operands m.flags (method_type (text_at file.pool m.descriptor)) (and_parts (is_method_described file.pool m) _ fitting).0 in
      let static = ap {B = ℕ} (λ (b : Bool). if b then 0 else 1) (is_so is_static_method) in
      omega (arith, told.operands, few, static)

  body_found : body_of files member ≡ option_map (with_pool file.pool) (code_in m.parts)
  body_found =
      ap (option_and_then (body_in member.name member.descriptor)) (class_found files linked class file c)
      ∙ ap (λ o. option_map (with_pool file.pool) (option_and_then (λ (x : MethodTree). code_in x.parts) o)) (method_in_class files linked class k file m c s)

  -- a method with a body is not abstract
  pub with_body_concrete : is_some (body_of files (member_of file m)) ≡ true → is_one is_abstract_method files (member_of file m) ≡ false
  with_body_concrete h =
      is_so is_abstract_method
      ∙ not_both (is_some (code_in m.parts)) (is_abstract_method m) (and_parts (is_method_described file.pool m) _ fitting).1 (sym (some_same (code_in m.parts)) ∙ sym (ap is_some body_found) ∙ h)
    where
      some_same : (o : Option CodeTree) → is_some (option_map (with_pool file.pool) o) ≡ is_some o
      some_same None = refl
      some_same (Some code) = refl

-- ---- the kind of a method, by what its calls need

module _ (files : Program) (m : Member) where
  pub kind_coded : (o : Option Body) (code : Option FrameCode) → option_map frame_needs code ≡ option_map body_needs o → is_some code ≡ true
      → (is_some o ≡ true → is_one is_abstract_method files m ≡ false) → IsKind files m o kind.Code
  kind_coded o None e h concrete = absurd (false≢true h)
  kind_coded None (Some code) e h concrete = absurd cc
  kind_coded (Some b) (Some code) e h concrete = concrete refl

  pub kind_abstract : (o : Option Body) (code : Option FrameCode) → option_map frame_needs code ≡ option_map body_needs o → is_some code ≡ false
      → is_one is_abstract_method files m ≡ true → IsKind files m o kind.Abstract
  kind_abstract o (Some code) e h abstract = absurd (true≢false h)
  kind_abstract (Some b) None e h abstract = absurd cc
  kind_abstract None None e h abstract = abstract

  pub kind_built_in : (o : Option Body) (code : Option FrameCode) (b : BuiltInMethod) → option_map frame_needs code ≡ option_map body_needs o → is_some code ≡ false
      → is_one is_abstract_method files m ≡ false → built_in_of b ≡ built_in_method m → IsKind files m o (kind.BuiltIn b)
  kind_built_in o (Some code) b e h abstract is = absurd (true≢false h)
  kind_built_in (Some body) None b e h abstract is = absurd cc
  kind_built_in None None b e h abstract is = (abstract, is)

-- ---- the row of a method

pub row_is : (files : Program) (linked : IsLinked files) (class k : ℕ) (file : FileTree) (m : MethodTree) → class_at files class ≡ Some file → slice_get file.methods k ≡ Some m
    → (call : MethodCall) → IsCallOf files (member_of file m) call → (kind : MethodKind) → IsKind files (member_of file m) (body_of files (member_of file m)) kind
    → IsRowIf files (member_at files (record { class = class; member = k })) (Some (record { class = class; operands = call.operands; is_static = call.is_static; is_synchronized = call.is_synchronized; kind = kind }))
row_is files linked class k file m c s call told kind is =
    subst (λ o. IsRowIf files o (Some (record { class = class; operands = call.operands; is_static = call.is_static; is_synchronized = call.is_synchronized; kind = kind })))
    (sym (member_is files class k file m c s))
    (record { class = (file, c, refl); static = told.static; operands = told.operands; synchronized = told.synchronized; kind = is })

pub told_there : (files : Program) (class k : ℕ) (file : FileTree) (m : MethodTree) → class_at files class ≡ Some file → slice_get file.methods k ≡ Some m
    → (call : MethodCall) → IsTold files (member_at files (record { class = class; member = k })) (Some call) → IsCallOf files (member_of file m) call
told_there files class k file m c s call told = subst (λ o. IsTold files o (Some call)) (member_is files class k file m c s) told

-- ---- methods of the machine

-- what has a row is told by it, and what has none by a default
pub with_row : (b : BuiltInMethod) (q : Option model.BuiltInMethod) (d : model.BuiltInMethod) → Some (built_in_of b) ≡ q → built_in_of b ≡ unwrap_or q d
with_row b q d e = ap (λ x. unwrap_or x d) e

pub without_row : (b : BuiltInMethod) (q : Option model.BuiltInMethod) (d : model.BuiltInMethod) → None ≡ q → built_in_of b ≡ d → built_in_of b ≡ unwrap_or q d
without_row b q d e h = h ∙ ap (λ x. unwrap_or x d) e

-- ---- rows of all methods

pub are_rows : (files : Program) (ms : List Member) (rows : List MethodRow) → Pairs (IsMethodRow files) ms rows → AreMethodRows files ms rows
are_rows files [] [] h = tt
are_rows files [] (row ∷ rows) h = absurd h
are_rows files (m ∷ ms) [] h = absurd h
are_rows files (m ∷ ms) (row ∷ rows) h = (h.0, are_rows files ms rows h.1)

-- both crates count methods so
pub same_methods : (files : Program) → method_links.methods_of files ≡ methods_of files
unfolding method_links.methods_of methods_of
same_methods files = refl

pub row_pushed : (files : Program) (n : ℕ) (rows new : List MethodRow) (row : MethodRow) (o : Option Member) → Some o ≡ option_map (λ m. Some m) (slice_get (method_links.methods_of files) n) → IsRowIf files o (Some row)
    → Pairs (IsMethodRow files) (take n (methods_of files)) rows → new ≡ rows ++ row ∷ [] → Pairs (IsMethodRow files) (take (n + 1) (methods_of files)) new
row_pushed files n rows new row None at is h pushed = absurd is
row_pushed files n rows new row (Some m) at is h pushed =
    pair_pushed (IsMethodRow files) (methods_of files) n rows new m row
    (ap (λ l. slice_get l n) (sym (same_methods files)) ∙ sym (inner (Some m) (slice_get (method_links.methods_of files) n) at)) h is pushed
