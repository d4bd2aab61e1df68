-- The slot of the field at a place.
use Rattle.std.proofs.Common.{◌≡◌, ℕ, ◌+◌, ◌-◌, ◌<◌, ◌≤◌, Bool, true, false, not, cond, [], length, map, drop, find, refl, sym, ap, ⊎_elim, ◌∙◌, length-append, arith, Option, Some, None}
use Rattle.std.specs.Prelude.{position, slice_get, nat_lt, option_map}
use Rattle.std.specs.Option.{option_and_then, option_map_or}
use Rattle.std.specs.List.{filter}
use Rattle.std.proofs.lemmas.List.{length-map}
use Rattle.std.proofs.lemmas.Bool.{cases_lt}
use Rattle.std.proofs.lemmas.Bool.Decides.{nat_tests}
use Rattle.model.specs.Names.{Name, Member}
use Rattle.model.specs.Tree.{FileTree, FieldTree}
use Rattle.model.specs.AccessFlags.{is_static_field, is_instance_field}
use Rattle.model.specs.BuiltIn.{built_in_classes}
use Rattle.model.specs.Classes.{Program, name_of, classes_of, superclass_of}
use Rattle.model.specs.Lookup.{is_field, in_class, field_of, field_member, own_instance_fields, instance_fields}
use Rattle.model.specs.Opening.{static_fields}
use Rattle.run_laws.proofs.laws.Lists.{every_at, get_map}
use Rattle.hierarchy.specs.declared.place.MemberPlace.{MemberPlace}
use Rattle.hierarchy.specs.Places.{class_at, member_in, IsFieldAt}
use Rattle.hierarchy.proofs.Finding.{passes_at, position_within}
use Rattle.linker.specs.declared.field_links.link.FieldLink.TheVariants as links
use Rattle.linker.specs.declared.field_links.slots.Ends.{Ends}
use Rattle.linker.specs.Linking.{IsLinked}
use Rattle.linker.specs.field_links.Links.{slot_in, link_by, link_in, link_of}
use Rattle.linker.specs.field_links.Slots.{sizes, AreEnds, static_slot, instance_slot, link_from}
use Rattle.linker.proofs.field_links.Lineages.{fields_below, fields_top, slot_below}
use Rattle.linker.proofs.field_links.Members.{HaveTexts, all_texts, IsAmong, stands_among}
use Rattle.linker.proofs.field_links.StaticSlots as statics
use Rattle.linker.proofs.field_links.OwnNames.{unrefused, files_differ, no_built_in_name, place_is, class_is}
use Rattle.hierarchy.proofs.Indices.{built_in_count, file_behind, get_front}
use Rattle.hierarchy.proofs.SetLaws.{no_item}

lower : (m n : ℕ) → m < n → nat_lt m n ≡ true
lower m n h = grind (arith, nat_tests)

higher : (m n : ℕ) → n ≤ m → nat_lt m n ≡ false
higher m n h = grind (arith, nat_tests)

module _ (files : Program) (linked : IsLinked files) (ends : Ends) (are : AreEnds files ends) (m : Member) (k j : ℕ) (file : FileTree)
    (f : FieldTree)
    (at : slice_get (classes_of files) k ≡ Some file) (here : slice_get file.fields j ≡ Some f) (stands : position (is_field file.pool m.name m.descriptor) file.fields ≡ Some j) where
  abbrev named : Member
  named = in_class (name_of file) m

  abbrev behind : (FieldTree → Bool) → ℕ
  behind kind = length (filter kind (drop j file.fields))

  among : (kind : FieldTree → Bool) → kind f ≡ true → IsAmong kind (name_of file) file named j
  among kind h =
      stands_among kind (name_of file) file named j f (every_at HaveTexts (classes_of files) k file (all_texts files (unrefused files linked)) at) refl stands here h

  -- ---- a static field

  static_behind : (i : ℕ) → k ≡ 37 + i → is_static_field f ≡ true
      → static_slot ends k (drop j file.fields) ≡ slot_in (static_fields files) named
  static_behind i is h =
      let a = among is_static_field h in
      let there : slice_get files i ≡ Some file = sym (file_behind files i) ∙ ap (slice_get (classes_of files)) (sym is) ∙ at in
      let s = statics.static_slot 0 files i file named a.0 (files_differ files linked) there refl a.1 in
      let is_so : s.1 - behind is_static_field ≡ s.0 = omega (arith, s.4, a.2, length-map (filter is_static_field file.fields) (field_member (name_of file) file.pool)) in
      ap (λ b. cond b None (option_map (λ (end : ℕ). end - behind is_static_field) (slice_get ends.statics.items (k - 37)))) (higher k 37 (omega (arith, is)))
      ∙ ap (λ n. option_map (λ (end : ℕ). end - behind is_static_field) (slice_get ends.statics.items n)) (omega (arith, is))
      ∙ ap (λ l. option_map (λ (end : ℕ). end - behind is_static_field) (slice_get l i)) are.statics
      ∙ ap (option_map (λ (end : ℕ). end - behind is_static_field)) s.3
      ∙ ap (λ n. Some n) is_so
      ∙ sym s.2

  static_is : is_static_field f ≡ true → static_slot ends k (drop j file.fields) ≡ slot_in (static_fields files) named
  static_is h = ⊎_elim
      (λ lt. ap (λ b. cond b None (option_map (λ (end : ℕ). end - behind is_static_field) (slice_get ends.statics.items (k - 37)))) (lower k 37 lt)
      ∙ sym (statics.no_static_slot files k file named (no_built_in_name files linked) (sym (get_front built_in_classes files k (omega (arith, lt, built_in_count))) ∙ at) refl))
      (λ ge. static_behind (k - 37) (omega (arith, ge)) h)
      (cases_lt k 37)

  -- ---- an instance field

  own_is : own_instance_fields files (name_of file) ≡ map (field_member (name_of file) file.pool) (filter is_instance_field file.fields)
  own_is = ap (λ (o : Option FileTree). option_map_or (λ (file' : FileTree). map (field_member (name_of file) file'.pool) (filter is_instance_field file'.fields)) o []) (class_is files linked k file at)

  own_length : length (own_instance_fields files (name_of file)) ≡ length (filter is_instance_field file.fields)
  own_length = ap length own_is ∙ length-map (filter is_instance_field file.fields) (field_member (name_of file) file.pool)

  -- the end of a class's slots, and the slot
  IsSlot : ℕ → Type 0
  IsSlot slot = (slot_in (instance_fields files (name_of file)) named ≡ Some slot) × (slot + behind is_instance_field ≡ length (instance_fields files (name_of file)))

  slot_is : is_instance_field f ≡ true → (slot : ℕ) × (slot_in (instance_fields files (name_of file)) named ≡ Some slot)
      × (slot + behind is_instance_field ≡ length (instance_fields files (name_of file)))
  slot_is h = by (superclass_of files (name_of file)) refl
    where
      by : (o : Option Name) → superclass_of files (name_of file) ≡ o
          → (slot : ℕ) × (slot_in (instance_fields files (name_of file)) named ≡ Some slot)
          × (slot + behind is_instance_field ≡ length (instance_fields files (name_of file)))
      by None q =
          let a = among is_instance_field h in
          let fields = fields_top files (unrefused files linked) (name_of file) q in
          (a.0, ap (λ l. slot_in l named) (fields ∙ own_is) ∙ a.1, omega (arith, a.2, ap length fields, own_length))
      by (Some s) q =
          let a = among is_instance_field h in
          let ok = unrefused files linked in
          let fields = fields_below files ok (name_of file) s q in (
            length (instance_fields files s) + a.0,
            slot_below files ok (name_of file) s named a.0 q refl (ap (λ l. slot_in l named) own_is ∙ a.1),
            omega (arith, a.2, ap length fields, length-append (instance_fields files s) (own_instance_fields files (name_of file)), own_length),
          )

  instance_is : is_instance_field f ≡ true
      → instance_slot ends k (drop j file.fields) ≡ slot_in (instance_fields files (name_of file)) named
  unfolding sizes
  instance_is h =
      let s = slot_is h in
      let is_so : length (instance_fields files (name_of file)) - behind is_instance_field ≡ s.0 = omega (arith, s.2) in
      ap (λ l. option_map (λ (end : ℕ). end - behind is_instance_field) (slice_get l k)) are.instances
      ∙ ap (option_map (λ (end : ℕ). end - behind is_instance_field)) (get_map (λ (file : FileTree). length (instance_fields files (name_of file))) (classes_of files) k file at)
      ∙ ap (λ n. Some n) is_so
      ∙ sym s.1

  -- ---- the link

  link_by_is : (b : Bool) → is_static_field f ≡ b → link_from ends k f (drop j file.fields) ≡ link_by files named k f
  link_by_is true h =
      ap (λ b. cond b (option_map (λ (slot : ℕ). links.Static k slot) (static_slot ends k (drop j file.fields))) (option_map (λ (slot : ℕ). links.Instance k slot) (instance_slot ends k (drop j file.fields)))) h
      ∙ ap (option_map (λ (slot : ℕ). links.Static k slot)) (static_is h)
      ∙ ap (λ b. cond b (option_map (λ (slot : ℕ). links.Static k slot) (slot_in (static_fields files) named)) (option_map (λ (slot : ℕ). links.Instance k slot) (slot_in (instance_fields files (name_of file)) named))) (sym h)
  link_by_is false h =
      ap (λ b. cond b (option_map (λ (slot : ℕ). links.Static k slot) (static_slot ends k (drop j file.fields))) (option_map (λ (slot : ℕ). links.Instance k slot) (instance_slot ends k (drop j file.fields)))) h
      ∙ ap (option_map (λ (slot : ℕ). links.Instance k slot)) (instance_is (ap not h))
      ∙ ap (λ b. cond b (option_map (λ (slot : ℕ). links.Static k slot) (slot_in (static_fields files) named)) (option_map (λ (slot : ℕ). links.Instance k slot) (slot_in (instance_fields files (name_of file)) named))) (sym h)

  declared : field_of files named ≡ Some f
  declared =
      ap (λ (o : Option FileTree). option_and_then (λ (file : FileTree). find (is_field file.pool m.name m.descriptor) file.fields) o) (class_is files linked k file at)
      ∙ passes_at (is_field file.pool m.name m.descriptor) file.fields j f stands here

  named_is : link_from ends k f (drop j file.fields) ≡ link_of files named
  named_is =
      link_by_is (is_static_field f) refl
      ∙ ap (λ (o : Option FieldTree). option_and_then (λ (f : FieldTree). link_by files named k f) o) (sym declared)
      ∙ ap (λ (o : Option ℕ). option_and_then (λ (class : ℕ). link_in files named class) o) (sym (place_is files linked k file at))

-- a field stands in a class
stands_in : (files : Program) (m : Member) (place : MemberPlace) (file : FileTree) → class_at files place.class ≡ Some file
    → IsFieldAt files m place → position (is_field file.pool m.name m.descriptor) file.fields ≡ Some place.member
stands_in files m place file at h = ap (λ (o : Option FileTree). option_and_then (λ (file : FileTree). position (is_field file.pool m.name m.descriptor) file.fields) o) (sym at) ∙ h

pub link_is : (files : Program) (linked : IsLinked files) (ends : Ends) (are : AreEnds files ends) (m : Member) (place : MemberPlace)
    (file : FileTree) (f : FieldTree) → class_at files place.class ≡ Some file → slice_get file.fields place.member ≡ Some f
    → IsFieldAt files m place
    → link_from ends place.class f (drop place.member file.fields) ≡ link_of files (member_in files m place)
link_is files linked ends are m place file f at here h =
    named_is files linked ends are m place.class place.member file f at here (stands_in files m place file at h)
    ∙ ap (λ (o : Option FileTree). link_of files (in_class (option_map_or name_of o []) m)) (sym at)

-- a class and a field stand where a field does
pub no_class_there : (files : Program) (m : Member) (place : MemberPlace) → class_at files place.class ≡ None → IsFieldAt files m place → ⊥
no_class_there files m place at h =
    let is_so : ◌≡◌ {A = Option ℕ} None (Some place.member) = ap (λ (o : Option FileTree). option_and_then (λ (file : FileTree). position (is_field file.pool m.name m.descriptor) file.fields) o) (sym at) ∙ h in
    cc

pub no_field_there : (files : Program) (m : Member) (place : MemberPlace) (file : FileTree) → class_at files place.class ≡ Some file
    → slice_get file.fields place.member ≡ None → IsFieldAt files m place → ⊥
no_field_there files m place file at none h =
    no_item file.fields place.member (position_within (is_field file.pool m.name m.descriptor) file.fields place.member (stands_in files m place file at h)) none
