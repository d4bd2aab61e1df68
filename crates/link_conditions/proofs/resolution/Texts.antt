-- The classes that texts name as descriptors.
use Rattle.std.proofs.Common.{◌≡◌, ℕ, List, [], ◌∷◌, get_or, Option, Some, None, Bool, true, false, ◌||◌, refl, sym, ap, ◌∙◌}
use Rattle.std.specs.List.{list_any, filter_map, cons_option}
use Rattle.std.specs.Prelude.{is_some}
use Rattle.std.specs.List.{flat_map}
use Rattle.std.specs.Option.{option_map_or, option_to_list}
use Rattle.std.proofs.lemmas.List.{append-nil}
use Rattle.std.proofs.lemmas.List.Folds.{list_any-append}
use Rattle.std.proofs.Math.ListN.{get_or-map}
use Rattle.model.specs.declared.instr.Instr.TheVariants as instrs
use Rattle.model.specs.Names.{Name}
use Rattle.model.specs.Tree.{Entry, Utf8, Class, NameAndType, Unusable, FileTree}
use Rattle.model.specs.Spelling.{entry_at, text_of}
use Rattle.model.specs.Pool.{utf8_of, utf8_at, class_name_of, class_name_at, NameAndDescriptor, name_and_descriptor, name_and_type_at, reference, reference_at}
use Rattle.model.specs.Conditions.{text_at}
use Rattle.model.specs.Classes.{Program}
use Rattle.model.specs.Descriptors.{FieldType}
use Rattle.model.specs.DescriptorScan.{element_at, field_at as scanned_at, field_type, method_type}
use Rattle.model.specs.DescriptorParts.{class_of_element, types_in, classes_in, is_array_class, classes_named}
use Rattle.model.specs.Resolution.{is_missing, called_classes, unresolved_instruction}
use Rattle.link_conditions.specs.resolution.Unresolved.{lacks_class}
use Rattle.link_conditions.specs.resolution.Rows.{names_missing, descriptor_lacks_class, lacking_texts}
use Rattle.link_conditions.proofs.resolution.Operands.{class_asked}

any_of_mapped : {A B : Type 0} (p : B → Bool) (f : A → Option B) (xs : List A)
    → list_any p (filter_map f xs) ≡ list_any (λ x. option_map_or p (f x) false) xs
any_of_mapped p f [] = refl
any_of_mapped {A} {B} p f (x ∷ xs) = by (f x) (any_of_mapped p f xs)
  where
    by : (o : Option B) → list_any p (filter_map f xs) ≡ list_any (λ x. option_map_or p (f x) false) xs
        → list_any p (cons_option o (filter_map f xs)) ≡ (option_map_or p o false || list_any (λ x. option_map_or p (f x) false) xs)
    by None h = h
    by (Some y) h = ap (λ b. p y || b) h

-- the classes that are not found, type by type
pub lacks_by_types : (files : Program) (text : Name) → list_any (names_missing files) (types_in text) ≡ lacks_class files text
lacks_by_types files text = sym (any_of_mapped (is_missing files) (λ (f : FieldType). class_of_element f.element) (types_in text))

-- no text names no class
pub nothing_lacks : (files : Program) → lacks_class files [] ≡ false
unfolding element_at scanned_at field_type method_type
nothing_lacks files = refl

-- what the row of an index says
pub text_said : (files : Program) (pool : List Entry) (rows : List Bool) (index : ℕ) → rows ≡ lacking_texts files pool
    → get_or rows index false ≡ lacks_class files (text_at pool index)
text_said files pool rows index are =
    ap (λ (rs : List Bool). get_or rs index false) are
    ∙ ap (λ (b : Bool). get_or (lacking_texts files pool) index b) (sym (nothing_lacks files))
    ∙ get_or-map (λ (e : Entry). lacks_class files (text_of e)) (Unusable ∷ pool) index Unusable

-- ---- the text of a Utf8

text_is : (e : Entry) (t : Name) → utf8_of e ≡ Some t → text_of e ≡ t
text_is (Utf8 text) t h = cc
text_is e t h = absurd cc

pub text_there : (pool : List Entry) (index : ℕ) (t : Name) → utf8_at pool index ≡ Some t → text_at pool index ≡ t
text_there pool index t h = text_is (entry_at pool index) t h

-- the descriptor of a NameAndType
pub descriptor_said : (files : Program) (pool : List Entry) (index name descriptor : ℕ) → entry_at pool index ≡ NameAndType name descriptor
    → is_some (utf8_at pool name) ≡ true → is_some (utf8_at pool descriptor) ≡ true
    → lacks_class files (text_at pool descriptor) ≡ descriptor_lacks_class files (name_and_type_at pool index)
descriptor_said files pool index name descriptor at n d = rw at (by (utf8_at pool name) (utf8_at pool descriptor) (text_there pool descriptor) n d)
  where
    by : (o p : Option Name) → ((t : Name) → p ≡ Some t → text_at pool descriptor ≡ t) → is_some o ≡ true → is_some p ≡ true
        → lacks_class files (text_at pool descriptor) ≡ descriptor_lacks_class files (name_and_descriptor o p)
    by None p said h k = absurd cc
    by (Some n) None said h k = absurd cc
    by (Some n) (Some t) said h k = ap (lacks_class files) (said t refl)

-- the class of an array's elements
pub array_said : (files : Program) (file : FileTree) (k name : ℕ) (text : Name) → entry_at file.pool k ≡ Class name
    → utf8_at file.pool name ≡ Some text → is_array_class text ≡ true
    → lacks_class files (text_at file.pool name) ≡ unresolved_instruction files file (instrs.CheckCast k)
array_said files file k name text at said array =
    let named : class_name_at file.pool k ≡ Some text = ap (class_name_of file.pool) at ∙ said in
    let none_else : flat_map classes_named (option_to_list (Some text)) ≡ classes_in text = append-nil (classes_named text) ∙ rw array refl in
    ap (lacks_class files) (text_there file.pool name text said)
    ∙ ap (list_any (is_missing files)) (sym none_else)
    ∙ ap (λ (o : Option Name). list_any (is_missing files) (flat_map classes_named (option_to_list o))) (sym named)
    ∙ sym (class_asked files file k)

-- the class that a Methodref names, or that of an array's elements, and those of its descriptor
pub called_said : (files : Program) (file : FileTree) (class index : ℕ) → is_some (class_name_at file.pool class) ≡ true
    → is_some (name_and_type_at file.pool index) ≡ true
    → (unresolved_instruction files file (instrs.CheckCast class) || descriptor_lacks_class files (name_and_type_at file.pool index))
    ≡ list_any (is_missing files) (called_classes (reference_at file.pool class index))
called_said files file class index c n =
    ap (λ (b : Bool). b || descriptor_lacks_class files (name_and_type_at file.pool index)) (class_asked files file class)
    ∙ by (class_name_at file.pool class) (name_and_type_at file.pool index) c n
  where
    by : (o : Option Name) (p : Option NameAndDescriptor) → is_some o ≡ true → is_some p ≡ true
        → (list_any (is_missing files) (flat_map classes_named (option_to_list o)) || descriptor_lacks_class files p)
        ≡ list_any (is_missing files) (called_classes (reference o p))
    by None p c n = absurd cc
    by (Some name) None c n = absurd cc
    by (Some name) (Some member) c n =
        ap (λ (names : List Name). list_any (is_missing files) names || lacks_class files member.descriptor) (append-nil (classes_named name))
        ∙ sym (list_any-append (is_missing files) (classes_named name) (classes_in member.descriptor))
