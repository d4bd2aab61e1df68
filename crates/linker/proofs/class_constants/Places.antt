-- Where the static field of a place stands among those of all files.
use Rattle.std.proofs.Common.{◌≡◌, ℕ, zero, suc, ◌+◌, Bool, true, false, not, ◌&&◌, cond, List, [], ◌∷◌, length, map, take, ap, ◌∙◌, length-append, arith, Some}
use Rattle.std.specs.Prelude.{position, slice_get, option_map}
use Rattle.std.specs.List.{filter, list_any}
use Rattle.std.proofs.lemmas.Bool.{and_parts, and_from, not-true}
use Rattle.std.proofs.lemmas.List.{length-map}
use Rattle.std.proofs.lemmas.Grind.{flat_map-append}
use Rattle.model.specs.Names.{Name, Member, member_eq}
use Rattle.model.specs.Tree.{Entry, FieldTree, FileTree}
use Rattle.model.specs.Pool.{NameAndDescriptor}
use Rattle.model.specs.AccessFlags.{is_static_field}
use Rattle.model.specs.Conditions.{text_at, name_and_descriptor_at, is_same, differ}
use Rattle.model.specs.Classes.{Program, name_of}
use Rattle.model.specs.Lookup.{field_member}
use Rattle.model.specs.Linkable.{two_of_one_name}
use Rattle.model.specs.Opening.{static_fields_in, static_fields}
use Rattle.run_laws.proofs.laws.Classes.{name_self}
use Rattle.run_laws.proofs.laws.Lists.{get_map}
use Rattle.hierarchy.proofs.Finding.{none_at}
use Rattle.hierarchy.proofs.Indices.{take_one_more}
use Rattle.linker.specs.field_links.Slots.{static_ends}
use Rattle.linker.proofs.field_links.Positions.{step_over, stop_at}
use Rattle.linker.proofs.field_links.StaticSlots.{static_slot}

-- ---- in its class

module _ (class : Name) (pool : List Entry) where
  abbrev text_of_field : FieldTree → NameAndDescriptor
  text_of_field f = name_and_descriptor_at pool f.name f.descriptor

  self : (f : FieldTree) → member_eq (field_member class pool f) (field_member class pool f) ≡ true
  self f = and_from _ _ (name_self class) (and_from _ _ (name_self (text_at pool f.name)) (name_self (text_at pool f.descriptor)))

  other : (x f : FieldTree) → is_same (text_of_field x) (text_of_field f) ≡ false
      → member_eq (field_member class pool x) (field_member class pool f) ≡ false
  other x f h = ap (λ b. b && is_same (text_of_field x) (text_of_field f)) (name_self class) ∙ h

  pub place_in_class : (fs : List FieldTree) (j : ℕ) (f : FieldTree) → differ (map text_of_field fs) ≡ true → slice_get fs j ≡ Some f
      → is_static_field f ≡ true
      → position (λ (g : Member). member_eq g (field_member class pool f)) (map (field_member class pool) (filter is_static_field fs))
      ≡ Some (length (filter is_static_field (take j fs)))
  place_in_class [] j f apart at static = absurd cc
  place_in_class (x ∷ fs) zero f apart at static =
      let same : x ≡ f = cc in
      let is : is_static_field x ≡ true = ap is_static_field same ∙ static in
      let first : member_eq (field_member class pool x) (field_member class pool f) ≡ true = ap (λ y. member_eq (field_member class pool y) (field_member class pool f)) same ∙ self f in
      rw is (stop_at (λ (g : Member). member_eq g (field_member class pool f)) (field_member class pool x) (map (field_member class pool) (filter is_static_field fs)) first)
  place_in_class (x ∷ fs) (suc j) f apart at static =
      let parts = and_parts (not (list_any (is_same (text_of_field x)) (map text_of_field fs))) _ apart in
      let differs = other x f (none_at (is_same (text_of_field x)) (map text_of_field fs) j (text_of_field f) (not-true _ parts.0) (get_map text_of_field fs j f at)) in
      by differs (place_in_class fs j f parts.1 at static) (is_static_field x)
    where
      test : Member → Bool
      test g = member_eq g (field_member class pool f)

      by : member_eq (field_member class pool x) (field_member class pool f) ≡ false
          → position (λ (g : Member). member_eq g (field_member class pool f)) (map (field_member class pool) (filter is_static_field fs))
          ≡ Some (length (filter is_static_field (take j fs)))
          → (b : Bool) → position (λ (g : Member). member_eq g (field_member class pool f)) (map (field_member class pool) (cond b (x
          ∷ filter is_static_field fs) (filter is_static_field fs)))
          ≡ Some (length (cond b (x ∷ filter is_static_field (take j fs)) (filter is_static_field (take j fs))))
      by differs rest true =
          step_over (λ (g : Member). member_eq g (field_member class pool f)) (field_member class pool x) (map (field_member class pool) (filter is_static_field fs)) differs
          ∙ ap (option_map (λ (n : ℕ). suc n)) rest
      by differs rest false = rest

-- ---- among all files

end_is : (n : ℕ) (files : Program) (i : ℕ) (file : FileTree) (end : ℕ) → slice_get files i ≡ Some file
    → slice_get (static_ends n files) i ≡ Some end
    → end ≡ (n + length (static_fields (take i files))) + length (static_fields_in file)
end_is n [] i file end at e = absurd cc
end_is n (x ∷ files) zero file end at e =
    let same : x ≡ file = cc in
    let is : n + length (static_fields_in x) ≡ end = cc in
    omega (arith, is, ap (λ y. length (static_fields_in y)) same)
end_is n (x ∷ files) (suc i) file end at e =
    omega (arith, end_is (n + length (static_fields_in x)) files i file end at e, length-append (static_fields_in x) (static_fields (take i files)))

pub place_among : (files : Program) (i : ℕ) (file : FileTree) (field : Member) (k : ℕ) → two_of_one_name files ≡ false
    → slice_get files i ≡ Some file → field.class ≡ name_of file
    → position (λ (g : Member). member_eq g field) (static_fields_in file) ≡ Some k
    → position (λ (g : Member). member_eq g field) (static_fields files) ≡ Some (length (static_fields (take i files)) + k)
place_among files i file field k apart at is e =
    let s = static_slot 0 files i file field k apart at is e in
    let end = end_is 0 files i file s.1 at s.3 in
    s.2 ∙ ap (λ (n : ℕ). Some n) (omega (arith, s.4, end))

-- ---- one file more

pub slots_more : (files : Program) (i : ℕ) (file : FileTree) → slice_get files i ≡ Some file
    → length (static_fields (take (i + 1) files)) ≡ length (static_fields (take i files)) + length (filter is_static_field file.fields)
slots_more files i file at =
    ap (λ l. length (static_fields l)) (take_one_more files i file at)
    ∙ ap length (flat_map-append static_fields_in (take i files) (file ∷ []))
    ∙ length-append (static_fields (take i files)) (static_fields (file ∷ []))
    ∙ ap (λ n. length (static_fields (take i files)) + n) (length-append (static_fields_in file) [] ∙ omega (arith, length-map (filter is_static_field file.fields) (field_member (name_of file) file.pool)))
