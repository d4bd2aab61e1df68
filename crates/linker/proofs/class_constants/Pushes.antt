-- Constants of one field more.
use Rattle.std.proofs.Common.{◌≡◌, ℕ, ◌+◌, ◌-◌, ◌<◌, Bool, true, false, cond, get_or, List, [], ◌∷◌, ◌++◌, length, take, refl, sym, ap, subst, ◌∙◌, ⊎_elim, arith, Option, Some, None}
use Rattle.std.specs.Prelude.{option_map, slice_get, is_some}
use Rattle.std.specs.Option.{option_and_then}
use Rattle.std.specs.List.{filter, filter_map, cons_option}
use Rattle.std.proofs.lemmas.Bool.{true≢false, cases_Bool, cases_lt, and_parts}
use Rattle.std.proofs.lemmas.List.Filters.{length-filter_more}
use Rattle.std.proofs.lemmas.Option.{slice_get_within, get_or_from_slice_get}
use Rattle.std.proofs.lemmas.List.{append-nil}
use Rattle.std.proofs.lemmas.List.Elements.{filter_map-append}
use Rattle.model.specs.Names.{Member}
use Rattle.model.specs.Tree.{FieldTree, FileTree}
use Rattle.model.specs.AccessFlags.{is_static_field}
use Rattle.model.specs.Spells.{IsWhole}
use Rattle.model.specs.Spelling.{entry_at}
use Rattle.model.specs.BuiltIn.{built_in_classes}
use Rattle.model.specs.Classes.{Program, name_of, classes_of}
use Rattle.model.specs.Lookup.{field_member}
use Rattle.model.specs.Opening.{static_fields}
use Rattle.model.specs.Operands.{words}
use Rattle.model.specs.Worlds.{put_value}
use Rattle.model.specs.ClassInitialisation.{constant_in, constant_of, constant_value}
use Rattle.run_laws.proofs.laws.Lists.{every_at}
use Rattle.linker.specs.Linking.{IsLinked}
use Rattle.hierarchy.proofs.Indices.{built_in_count, file_behind, get_front, take_one_more}
use Rattle.linker.proofs.field_links.OwnNames.{unrefused, files_differ}
use Rattle.linked_code.specs.declared.class.LinkedConstant.{LinkedConstant}
use Rattle.linked_code.specs.Numbers.{slot_in}
use Rattle.linked_code.specs.ClassRows as rows
use Rattle.linked_code.specs.ClassRows.{AreConstants}
use Rattle.linker.specs.class_constants.Constants.{word_in, slots_before, constant_at, slot_behind}
use Rattle.linker.proofs.class_constants.Places.{place_in_class, place_among}
use Rattle.linker.proofs.class_constants.StaticConstants.{HasStaticConstants, HasNoConstants, static_constants, no_built_in_constants}

one_more : (files : Program) (cs : List (Member × ℕ)) (ls : List LinkedConstant) (c : Member × ℕ) (l : LinkedConstant)
    → AreConstants files cs ls
    → slot_in (static_fields files) c.0 ≡ Some l.slot → l.word ≡ c.1 → AreConstants files (cs ++ c ∷ []) (ls ++ l ∷ [])
one_more files [] [] c l h s w = (s, w, tt)
one_more files [] (x ∷ ls) c l h s w = absurd h
one_more files (x ∷ cs) [] c l h s w = absurd h
one_more files (x ∷ cs) (y ∷ ls) c l h s w = (h.0, h.1, one_more files cs ls c l h.2 s w)

module _ (files : Program) (linked : IsLinked files) (class : ℕ) (file : FileTree) (at : slice_get (classes_of files) class ≡ Some file)
    (i : ℕ) (f : FieldTree) (here : slice_get file.fields i ≡ Some f) where
  abbrev named : Member
  named = field_member (name_of file) file.pool f

  -- the class of a field that has a constant is one of a file, and the field is static
  built_in_none : class < 37 → constant_in f.parts ≡ None
  built_in_none less =
      let there : slice_get built_in_classes class ≡ Some file = sym (get_front built_in_classes files class (omega (arith, less, built_in_count))) ∙ at in
      none (constant_in f.parts) (every_at (λ (f : FieldTree). is_some (constant_in f.parts) ≡ false) file.fields i f (every_at HasNoConstants built_in_classes class file no_built_in_constants there) here)
    where
      none : (o : Option ℕ) → is_some o ≡ false → o ≡ None
      none None e = refl
      none (Some n) e = absurd (true≢false e)

  slot_of_file : (number : ℕ) → class ≡ 37 + number → (index : ℕ) → constant_in f.parts ≡ Some index
      → slot_in (static_fields files) named ≡ Some (slots_before files class + length (filter is_static_field (take i file.fields)))
  slot_of_file number is index has =
      let there : slice_get files number ≡ Some file = sym (file_behind files number) ∙ ap (slice_get (classes_of files)) (sym is) ∙ at in
      let quiet = every_at (λ (f : FieldTree). is_static_field f ≡ false → constant_in f.parts ≡ None) file.fields i f (every_at HasStaticConstants files number file (static_constants linked.0 files linked.1.spelled) there) here in
      let whole : IsWhole file = every_at IsWhole files number file (unrefused files linked).whole there in
      let static : is_static_field f ≡ true = ⊎_elim (λ yes. yes) (λ no. absurd (let none : None ≡ Some index = sym (quiet no) ∙ has in cc)) (cases_Bool (is_static_field f)) in
      let own = place_in_class (name_of file) file.pool file.fields i f (and_parts _ _ whole.members).0 here static in
      let same : class - 37 ≡ number = omega (arith, is) in
      place_among files number file named (length (filter is_static_field (take i file.fields))) (files_differ files linked) there refl own
      ∙ ap (λ n. Some (length (static_fields (take n files)) + length (filter is_static_field (take i file.fields)))) (sym same)

  slot_is : (index : ℕ) → constant_in f.parts ≡ Some index
      → slot_in (static_fields files) named ≡ Some (slots_before files class + length (filter is_static_field (take i file.fields)))
  slot_is index has = ⊎_elim
      (λ less. absurd (let none : None ≡ Some index = sym (built_in_none less) ∙ has in cc))
      (λ more. slot_of_file (class - 37) (omega (arith, more)) index has)
      (cases_lt class 37)

  index_of : (o : Option ℕ) (value : ℕ) → option_and_then (λ (index : ℕ). constant_of words files file.pool (entry_at file.pool index)) o
      ≡ Some value → (index : ℕ) × (o ≡ Some index)
  index_of None value e = absurd cc
  index_of (Some index) value e = (index, refl)

  abbrev kept_of : ℕ → ℕ
  kept_of value = put_value words named value

  pub constants_more : (done new : List LinkedConstant) (slot : ℕ) (word : Option ℕ)
      → slot ≡ slots_before files class + length (filter is_static_field (take i file.fields))
      → word ≡ word_in files file f → new ≡ done ++ constant_at slot word
      → AreConstants files (filter_map (rows.constant_in files (name_of file) file.pool) (take i file.fields)) done
      → AreConstants files (filter_map (rows.constant_in files (name_of file) file.pool) (take (i + 1) file.fields)) new
  constants_more done new slot word stands is pushed before =
      subst (λ l. AreConstants files l new) (sym longer)
      (subst (λ l. AreConstants files (earlier ++ filter_map (rows.constant_in files (name_of file) file.pool) (f ∷ [])) l) (sym (pushed ∙ ap (λ o. done ++ constant_at slot o) is))
      (by (constant_value words files file.pool f) refl))
    where
      earlier : List (Member × ℕ)
      earlier = filter_map (rows.constant_in files (name_of file) file.pool) (take i file.fields)

      longer : filter_map (rows.constant_in files (name_of file) file.pool) (take (i + 1) file.fields)
          ≡ earlier ++ filter_map (rows.constant_in files (name_of file) file.pool) (f ∷ [])
      longer = ap (filter_map (rows.constant_in files (name_of file) file.pool)) (take_one_more file.fields i f here) ∙ filter_map-append (rows.constant_in files (name_of file) file.pool) (take i file.fields) (f ∷ [])

      by : (o : Option ℕ) → constant_value words files file.pool f ≡ o
          → AreConstants files (earlier ++ filter_map (rows.constant_in files (name_of file) file.pool) (f ∷ [])) (done
          ++ constant_at slot (word_in files file f))
      by None e =
          subst (λ o. AreConstants files (earlier ++ cons_option (option_map (λ (value : ℕ). (named, kept_of value)) o) []) (done ++ constant_at slot (option_map kept_of o))) (sym e)
          (subst (λ l. AreConstants files l (done ++ [])) (sym (append-nil earlier)) (subst (λ l. AreConstants files earlier l) (sym (append-nil done)) before))
      by (Some value) e =
          let index = index_of (constant_in f.parts) value e in
          subst (λ o. AreConstants files (earlier ++ cons_option (option_map (λ (value : ℕ). (named, kept_of value)) o) []) (done ++ constant_at slot (option_map kept_of o))) (sym e)
          (one_more files earlier done (named, kept_of value) (record { slot = slot; word = kept_of value }) before (slot_is index.0 index.1 ∙ ap (λ (n : ℕ). Some n) (sym stands)) refl)

-- ---- slots

abbrev one_if : Bool → ℕ
one_if b = cond b 1 0

behind : (n : ℕ) (b : Bool) → slot_behind n b ≡ n + one_if b
behind n true = omega arith
behind n false = omega arith

pub slot_more : (before slot : ℕ) (fs : List FieldTree) (i : ℕ) (f : FieldTree) → slice_get fs i ≡ Some f
    → slot ≡ before + length (filter is_static_field (take i fs))
    → slot_behind slot (is_static_field f) ≡ before + length (filter is_static_field (take (i + 1) fs))
slot_more before slot fs i f here is =
    let one = length-filter_more is_static_field fs i f (slice_get_within fs i f here) in
    let same : one_if (is_static_field (get_or fs i f)) ≡ one_if (is_static_field f) = ap (λ (x : FieldTree). one_if (is_static_field x)) (get_or_from_slice_get fs i f f here) in
    behind slot (is_static_field f) ∙ omega (arith, is, one, same)
