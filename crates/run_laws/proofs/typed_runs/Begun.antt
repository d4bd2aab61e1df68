-- Beginning to initialise a class sets its constants (JVMS 5.5, step 6), which are of the declared types.
use Rattle.std.proofs.Common.{◌≡◌, ℕ, List, [], ◌∷◌, true, Option, Some, None, refl, sym, subst, ⊎_elim}
use Rattle.std.specs.Prelude.{slice_get, codes}
use Rattle.std.specs.Option.{option_map, option_map_or, option_and_then}
use Rattle.std.specs.List.{AllByRecursion}
use Rattle.std.specs.Str.{bytes_eq}
use Rattle.std.proofs.lemmas.Bool.{or_cases}
use Rattle.std.proofs.lemmas.Option.{same_Some}
use Rattle.model.specs.declared.value.Value.{Value}
use Rattle.model.specs.declared.value.Value.TheVariants as value
use Rattle.model.specs.Names.{Name, java_lang_string}
use Rattle.model.specs.Tree.{Entry, Utf8, Integer, Float, Long, Double, Class, String, Field, Method, InterfaceMethod, NameAndType, Unusable, FieldTree, FileTree}
use Rattle.model.specs.Spelling.{entry_at}
use Rattle.model.specs.Pool.{utf8_at}
use Rattle.model.specs.Conditions.{text_at, is_constant_of}
use Rattle.model.specs.DescriptorScan.{field_type, field_at, element_at}
use Rattle.model.specs.BuiltIn.{built_in_classes}
use Rattle.model.specs.Classes.{Program, class_of}
use Rattle.model.specs.ReferenceTypes.{ReferenceType, ClassType}
use Rattle.model.specs.Types.{is_object_below}
use Rattle.model.specs.DescribedTypes.{field_declared, verification_type}
use Rattle.model.specs.Operands.{values}
use Rattle.model.specs.State.{types_of, InProgress, World}
use Rattle.model.specs.Opening.{string_reference}
use Rattle.model.specs.Lookup.{field_member}
use Rattle.model.specs.Worlds.{with_static, put_value}
use Rattle.model.specs.ClassInitialisation.{with_class_status, constant_in, constant_of, constant_value, with_constant, with_constants}
use Rattle.model.specs.WellTyped.{has_type}
use Rattle.run_laws.proofs.laws.Classes.{names_same}
use Rattle.run_laws.proofs.laws.Order.{assignable_self}
use Rattle.run_laws.proofs.typed_runs.Objects.{put_value_typed}
use Rattle.run_laws.proofs.typed_runs.Changes.{Fits}
use Rattle.run_laws.proofs.laws.Linked.{Linked}
use Rattle.run_laws.proofs.typed_runs.WorldChanges.{Keeps, keeps_trans, self_keeps, static_keeps, class_status_keeps}
use Rattle.run_laws.proofs.typed_runs.OpeningObjects.{string_there}
use Rattle.run_laws.proofs.typed_runs.Entering.{BegunKeeps}

module _ (files : Program) where
  -- an int in a field of such a descriptor, and a String in one of Strings
  int_typed : (os : List ReferenceType) (descriptor : Name) (bits : ℕ) → is_constant_of descriptor (Integer bits) ≡ true
      → has_type files os (verification_type files (field_declared descriptor)) (value.Int bits) ≡ true
  unfolding field_type field_at element_at
  int_typed os descriptor bits h =
      ⊎_elim (of (codes "I") refl) (λ a. ⊎_elim (of (codes "S") refl)
      (λ b. ⊎_elim (of (codes "C") refl) (λ c. ⊎_elim (of (codes "B") refl) (of (codes "Z") refl) (or_cases _ _ c)) (or_cases _ _ b))
      (or_cases _ _ a)) (or_cases _ _ h)
    where
      of : (text : Name) → has_type files os (verification_type files (field_declared text)) (value.Int bits) ≡ true
          → bytes_eq descriptor text ≡ true → has_type files os (verification_type files (field_declared descriptor)) (value.Int bits)
          ≡ true
      of text typed e = subst (λ d. has_type files os (verification_type files (field_declared d)) (value.Int bits) ≡ true) (sym (names_same descriptor text e)) typed

  string_typed : (os : List ReferenceType) (descriptor : Name) (text r : ℕ) → is_constant_of descriptor (String text) ≡ true
      → slice_get os r ≡ Some (ClassType java_lang_string)
      → has_type files os (verification_type files (field_declared descriptor)) (value.Reference r) ≡ true
  unfolding built_in_classes field_type field_at element_at
  string_typed os descriptor text r h there =
      subst (λ d. has_type files os (verification_type files (field_declared d)) (value.Reference r) ≡ true) (sym (names_same descriptor (codes "Ljava/lang/String;") h))
      (subst (λ o. is_object_below files (ClassType java_lang_string) o ≡ true) (sym there) (assignable_self files (ClassType java_lang_string)))

  module _ (linked : Linked files) (class : Name) (file : FileTree) (is_class : class_of files class ≡ Some file) where
    text_typed : (world : World) → Fits files world → (index text : ℕ) (descriptor : Name) (o : Option (List ℕ)) (v : Value)
        → entry_at file.pool index ≡ String text → utf8_at file.pool text ≡ o → is_constant_of descriptor (String text) ≡ true
        → option_map (λ (bytes : List ℕ). value.Reference (string_reference files bytes)) o ≡ Some v
        → has_type files (types_of world.heap) (verification_type files (field_declared descriptor)) v ≡ true
    text_typed world fits index text descriptor None v e u h q = absurd cc
    text_typed world fits index text descriptor (Some bytes) v e u h q =
        let is : value.Reference (string_reference files bytes) ≡ v = same_Some (value.Reference (string_reference files bytes)) v q in
        let known = linked.string_known class file is_class index text bytes e u in
        let there = fits.opened.keeps (string_reference files bytes) (ClassType java_lang_string) (string_there files bytes known) in
        subst (λ x. has_type files (types_of world.heap) (verification_type files (field_declared descriptor)) x ≡ true) is (string_typed (types_of world.heap) descriptor text (string_reference files bytes) h there)

    entry_typed : (world : World) → Fits files world → (index : ℕ) (descriptor : Name) (entry : Entry) (v : Value)
        → entry_at file.pool index ≡ entry → is_constant_of descriptor entry ≡ true → constant_of values files file.pool entry ≡ Some v
        → has_type files (types_of world.heap) (verification_type files (field_declared descriptor)) v ≡ true
    entry_typed world fits index descriptor (Utf8 text) v e h q = absurd cc
    entry_typed world fits index descriptor (Integer bits) v e h q =
        let is : value.Int bits ≡ v = same_Some (value.Int bits) v q in
        subst (λ x. has_type files (types_of world.heap) (verification_type files (field_declared descriptor)) x ≡ true) is (int_typed (types_of world.heap) descriptor bits h)
    entry_typed world fits index descriptor (Float bits) v e h q = absurd cc
    entry_typed world fits index descriptor (Long bits) v e h q = absurd cc
    entry_typed world fits index descriptor (Double bits) v e h q = absurd cc
    entry_typed world fits index descriptor (Class name) v e h q = absurd cc
    entry_typed world fits index descriptor (String text) v e h q = text_typed world fits index text descriptor (utf8_at file.pool text) v e refl h q
    entry_typed world fits index descriptor (Field c n) v e h q = absurd cc
    entry_typed world fits index descriptor (Method c n) v e h q = absurd cc
    entry_typed world fits index descriptor (InterfaceMethod c n) v e h q = absurd cc
    entry_typed world fits index descriptor (NameAndType n d) v e h q = absurd cc
    entry_typed world fits index descriptor Unusable v e h q = absurd cc

    -- the value that a field has as a constant
    abbrev Constant : FieldTree → Type 0
    Constant field = (index : ℕ) → constant_in field.parts ≡ Some index → is_constant_of (text_at file.pool field.descriptor) (entry_at file.pool index) ≡ true

    value_typed : (world : World) → Fits files world → (field : FieldTree) → Constant field → (o : Option ℕ) (v : Value)
        → constant_in field.parts ≡ o → option_and_then (λ index. constant_of values files file.pool (entry_at file.pool index)) o ≡ Some v
        → has_type files (types_of world.heap) (verification_type files (field_declared (text_at file.pool field.descriptor))) v ≡ true
    value_typed world fits field c None v e q = absurd cc
    value_typed world fits field c (Some index) v e q = entry_typed world fits index (text_at file.pool field.descriptor) (entry_at file.pool index) v refl (c index e) q

    constant_keeps : (world : World) → Fits files world → (field : FieldTree) → Constant field → (o : Option Value)
        → constant_value values files file.pool field ≡ o
        → Keeps files world (option_map_or (λ v. with_static
        world (field_member class file.pool field) (put_value values (field_member class file.pool field) v)) o world)
    constant_keeps world fits field c None e = self_keeps files world fits
    constant_keeps world fits field c (Some v) e =
        let member = field_member class file.pool field in
        static_keeps files world fits member (put_value values member v) (put_value_typed files (types_of world.heap) member v (value_typed world fits field c (constant_in field.parts) v refl e))

    constants_keep : (fields : List FieldTree) → AllByRecursion Constant fields → (world : World) → Fits files world
        → Keeps files world (with_constants values files class file.pool world fields)
    constants_keep [] h world fits = self_keeps files world fits
    constants_keep (field ∷ fields) h world fits =
        let x = constant_keeps world fits field h.0 (constant_value values files file.pool field) refl in
        keeps_trans files world (with_constant values files class file.pool world field) _ x (constants_keep fields h.1 (with_constant values files class file.pool world field) x.fits)

  begun_by : Linked files → (t : ℕ) (class : Name) (world : World) → Fits files world → (o : Option FileTree) → class_of files class ≡ o
      → Keeps files world (option_map_or (λ (file : FileTree). with_constants values files class
      file.pool (with_class_status world class (InProgress t)) file.fields) o (with_class_status world class (InProgress t)))
  begun_by linked t class world fits None e = class_status_keeps files world fits class (InProgress t)
  begun_by linked t class world fits (Some file) e =
      let x = class_status_keeps files world fits class (InProgress t) in
      keeps_trans files world (with_class_status world class (InProgress t)) _ x (constants_keep linked class file e file.fields (linked.constants_fit class file e) (with_class_status world class (InProgress t)) x.fits)

  pub begun_keeps : Linked files → BegunKeeps files
  begun_keeps linked t class world fits = begun_by linked t class world fits (class_of files class) refl
