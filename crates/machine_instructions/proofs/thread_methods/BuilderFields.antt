-- A StringBuilder has the field `text` alone, and no other object has it.
use Rattle.std.proofs.Common.{◌≡◌, ℕ, zero, suc, List, [], ◌∷◌, length, map, reverse, Bool, true, false, not, ◌&&◌, Option, Some, None, refl, sym, ap, subst, ◌∙◌}
use Rattle.std.specs.Option.{option_and_then, option_map_or}
use Rattle.std.specs.List.{filter, flat_map, list_all, AllByRecursion}
use Rattle.std.proofs.lemmas.Bool.{true≢false, or_parts, not-true}
use Rattle.std.proofs.lemmas.List.{reverse-append}
use Rattle.std.proofs.lemmas.Grind.{flat_map-append}
use Rattle.model.specs.Names.{Name, Member, name_eq, member_eq, java_lang_string_builder, builder_text}
use Rattle.model.specs.Tree.{Entry, FieldTree, FileTree}
use Rattle.model.specs.AccessFlags.{is_final_class}
use Rattle.model.specs.BuiltIn.{built_in_classes}
use Rattle.model.specs.Classes.{Program, super_name_of, class_of, superclass_of, classes_of, lineage_of}
use Rattle.model.specs.Hierarchy.{in_cycle, extends_interface, extends_final}
use Rattle.model.specs.Linkable.{IsLinkable}
use Rattle.model.specs.Lookup.{is_instance_field, field_member, own_instance_fields, instance_fields}
use Rattle.run_laws.proofs.laws.Classes.{names_same}
use Rattle.run_laws.proofs.laws.Found.{every_all}
use Rattle.run_laws.proofs.laws.Homes.{class_has}
use Rattle.run_laws.proofs.laws.Lists.{every_append, every_weaken}
use Rattle.run_laws.proofs.laws.Unrefused.{unrefused_of}

pub builder_fields : (files : Program) → instance_fields files java_lang_string_builder ≡ builder_text ∷ []
unfolding built_in_classes
builder_fields files = refl

-- ---- no class is below it

abbrev below_builder : FileTree → Bool
below_builder file = option_map_or (λ s. name_eq s java_lang_string_builder) (super_name_of file) false

built_in_below : list_all (λ file. not (below_builder file)) built_in_classes ≡ true
unfolding built_in_classes
built_in_below = refl

module _ (files : Program) where
  builder_final : option_map_or is_final_class (class_of files java_lang_string_builder) false ≡ true
  unfolding built_in_classes
  builder_final = refl

  not_final : (o : Option Name) → option_map_or is_final_class (option_and_then (class_of files) o) false ≡ false
      → option_map_or (λ s. name_eq s java_lang_string_builder) o false ≡ false
  not_final None h = refl
  not_final (Some s) h = by (name_eq s java_lang_string_builder) refl
    where
      by : (b : Bool) → name_eq s java_lang_string_builder ≡ b → b ≡ false
      by true e =
          absurd (true≢false (sym builder_final ∙ ap (λ (n : Name). option_map_or is_final_class (class_of files n) false) (sym (names_same s java_lang_string_builder e)) ∙ h))
      by false e = refl

module _ (bytes : List (List ℕ)) (files : Program) (linkable : IsLinkable bytes files) where
  none_below : (c : Name) (file : FileTree) → class_of files c ≡ Some file → below_builder file ≡ false
  none_below c file e =
      class_has files (λ f. below_builder f ≡ false)
      (every_weaken _ _ built_in_classes (λ f h. not-true (below_builder f) h) (every_all _ built_in_classes built_in_below))
      (every_weaken _ _ files (λ f h. not_final files (super_name_of f) (or_parts (extends_final files f) _ (or_parts (extends_interface files f) _ (or_parts (in_cycle files f) _ h).1).1).0)
      (unrefused_of bytes files linkable.spelled linkable.no_refusal).hierarchy)
      c file e

  -- nor is a superclass of another class
  other_above : (c : Name) (o : Option FileTree) → class_of files c ≡ o → (s : Name) → option_and_then super_name_of o ≡ Some s
      → name_eq s java_lang_string_builder ≡ false
  other_above c None e s q = absurd cc
  other_above c (Some file) e s q = sym (ap (λ (n : Option Name). option_map_or (λ x. name_eq x java_lang_string_builder) n false) q) ∙ none_below c file e

  -- ---- fields

  abbrev IsOther : Member → Type 0
  IsOther field = member_eq field builder_text ≡ false

  members_other : (c : Name) (pool : List Entry) (fields : List FieldTree) → name_eq c java_lang_string_builder ≡ false
      → AllByRecursion IsOther (map (field_member c pool) fields)
  members_other c pool [] h = tt
  members_other c pool (f ∷ fields) h = (
    ap (λ b. b && (name_eq (field_member c pool f).name builder_text.name && name_eq (field_member c pool f).descriptor builder_text.descriptor)) h,
    members_other c pool fields h,
  )

  own_other : (c : Name) (o : Option FileTree) → name_eq c java_lang_string_builder ≡ false
      → AllByRecursion IsOther (option_map_or (λ (file : FileTree). map (field_member c file.pool) (filter is_instance_field file.fields)) o [])
  own_other c None h = tt
  own_other c (Some file) h = members_other c file.pool (filter is_instance_field file.fields) h

  lineage_other : (n : ℕ) (c : Name) → name_eq c java_lang_string_builder ≡ false
      → AllByRecursion (λ d. AllByRecursion IsOther (own_instance_fields files d)) (lineage_of files n c)
  lineage_other zero c h = tt
  lineage_other (suc n) c h = (own_other c (class_of files c) h, by (λ s e. lineage_other n s (other_above c (class_of files c) refl s e)) (superclass_of files c) refl)
    where
      by : ((s : Name) → superclass_of files c ≡ Some s → AllByRecursion (λ d. AllByRecursion IsOther (own_instance_fields files d)) (lineage_of files n s))
          → (o : Option Name) → superclass_of files c ≡ o
          → AllByRecursion (λ d. AllByRecursion IsOther (own_instance_fields files d)) (option_map_or (λ s. lineage_of files n s) o [])
      by above None e = tt
      by above (Some s) e = above s e

  all_fields : (names : List Name) → AllByRecursion (λ d. AllByRecursion IsOther (own_instance_fields files d)) names
      → AllByRecursion IsOther (flat_map (own_instance_fields files) (reverse names))
  all_fields [] h = tt
  all_fields (c ∷ names) h =
      subst (AllByRecursion IsOther)
      (sym (ap (flat_map (own_instance_fields files)) (reverse-append (c ∷ []) names) ∙ flat_map-append (own_instance_fields files) (reverse names) (c ∷ [])))
      (every_append IsOther _ _ (all_fields names h.1) (every_append IsOther (own_instance_fields files c) [] h.0 tt))

  -- of the fields of another class none is the text
  pub other_fields : (c : Name) → name_eq c java_lang_string_builder ≡ false → AllByRecursion IsOther (instance_fields files c)
  other_fields c h = all_fields (lineage_of files (length (classes_of files)) c) (lineage_other (length (classes_of files)) c h)
