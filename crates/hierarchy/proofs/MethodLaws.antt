-- Methods of superinterfaces, sought among all that is above a class.
use Rattle.std.proofs.Common.{◌≡◌, ◌∙◌, ℕ, zero, suc, ◌-◌, ◌<◌, ◌≤◌, Bool, false, List, [], ◌∷◌, ◌++◌, length, refl, sym, ap, subst, arith, Option, Some, None, leb-false}
use Rattle.std.specs.Prelude.{not, nat_le, IfSome}
use Rattle.std.specs.Option.{option_map_or, option_or, option_to_list}
use Rattle.std.specs.List.{flat_map, list_any}
use Rattle.std.proofs.lemmas.Bool.{or_parts, not-false}
use Rattle.std.proofs.lemmas.List.{append-nil}
use Rattle.std.proofs.lemmas.Grind.{flat_map-append}
use Rattle.model.specs.Names.{Name, name_eq, Member, java_lang_object}
use Rattle.model.specs.Classes.{Program, class_of, classes_of, superclass_of, superinterfaces_of, interfaces_above, all_superinterfaces, lineage_of, lineage}
use Rattle.model.specs.Lookup.{first_found}
use Rattle.hierarchy.specs.declared.rows.Above.TheVariants as above
use Rattle.hierarchy.specs.Above.{directly_above, names_above, each_once}
use Rattle.hierarchy.specs.Fields.{is_below_other, has_interface_below_other, SuperinterfacesAreFlat}
use Rattle.hierarchy.specs.Ranks.{rank_of}
use Rattle.hierarchy.proofs.SetLaws.{same_name}
use Rattle.hierarchy.proofs.RowLaws.{above_none}
use Rattle.hierarchy.proofs.Walks.{or_else_none, found-append, found_once, above_is, class_count}
use Rattle.hierarchy.proofs.RankLaws.{Ranked, ranked_by, steady}
use Rattle.hierarchy.proofs.FieldLaws.{object_is, interfaces_flat}

-- what is so of the row of a class is so of one that is given
pub of_row : {A B : Type 0} {row : List B} (o : Option A) (view : A → List B) (P : List B → Type 0) → option_map_or view o [] ≡ row
    → P row → IfSome o (λ a. P (view a))
of_row None view P e h = tt
of_row (Some a) view P e h = subst P (sym e) h

-- where the first of two is none, both are
neither : (a b : Option Member) → option_or a b ≡ None → (a ≡ None) × (b ≡ None)
neither None b e = (refl, e)
neither (Some m) b e = absurd cc

-- nothing is above Object
none_above_object : (files : Program) (n : ℕ) → names_above (directly_above files above.Supertypes) n java_lang_object ≡ []
none_above_object files n = above_none (directly_above files above.Supertypes) n java_lang_object (rw (object_is files) refl)

module _ (files : Program) (f : Name → Option Member) (object : f java_lang_object ≡ None)
    (flat : list_any (has_interface_below_other files) (classes_of files) ≡ false) where
  -- ---- superinterfaces

  abbrev all_names : ℕ → Name → List Name
  all_names n x = x ∷ names_above (directly_above files above.Supertypes) n x

  abbrev interface_names : ℕ → Name → List Name
  interface_names n x = x ∷ names_above (directly_above files above.Interfaces) n x

  -- what is found in each of several lists is found in all of them together
  each_same : (other : Name → Bool) (g h : Name → List Name) (xs : List Name) → list_any other xs ≡ false
      → ((x : Name) → other x ≡ false → first_found f (g x) ≡ first_found f (h x))
      → first_found f (flat_map g xs) ≡ first_found f (flat_map h xs)
  each_same other g h [] none same = refl
  each_same other g h (x ∷ xs) none same =
      let parts = or_parts (other x) (list_any other xs) none in
      found-append f (g x) (flat_map g xs)
      ∙ ap (λ o. option_or o (first_found f (flat_map g xs))) (same x parts.0)
      ∙ ap (option_or (first_found f (h x))) (each_same other g h xs parts.1 same)
      ∙ sym (found-append f (h x) (flat_map h xs))

  -- nothing is found from the superclass of an interface on
  none_in_object : (n : ℕ) (o : Option Name) → option_map_or (λ s. not (name_eq s java_lang_object)) o false ≡ false
      → first_found f (flat_map (all_names n) (option_to_list o)) ≡ None
  none_in_object n None near = refl
  none_in_object n (Some s) near =
      ap (λ x. first_found f (flat_map (all_names n) (x ∷ []))) (same_name s java_lang_object (not-false _ near))
      ∙ ap (λ (l : List Name). option_or (f java_lang_object) (first_found f (l ++ []))) (none_above_object files n)
      ∙ ap (λ o. option_or o None) object

  -- all that is above a class, in two parts
  in_parts : (n : ℕ) (class : Name) → first_found f (names_above (directly_above files above.Supertypes) (suc n) class)
      ≡ option_or (first_found f (flat_map (all_names n) (superinterfaces_of files class)))
      (first_found f (flat_map (all_names n) (option_to_list (superclass_of files class))))
  in_parts n class =
      let supers = option_to_list (superclass_of files class) in
      ap (first_found f) (flat_map-append (all_names n) (superinterfaces_of files class) supers)
      ∙ found-append f (flat_map (all_names n) (superinterfaces_of files class)) (flat_map (all_names n) supers)

  from_interface : (n : ℕ) (i : Name) → is_below_other files i ≡ false → first_found f (all_names n i) ≡ first_found f (interface_names n i)
  from_interface zero i near = refl
  from_interface (suc n) i near =
      ap (option_or (f i)) (in_parts n i
      ∙ ap (option_or (first_found f (flat_map (all_names n) (superinterfaces_of files i)))) (none_in_object n (superclass_of files i) near)
      ∙ or_else_none _
      ∙ each_same (is_below_other files) (all_names n) (interface_names n) (superinterfaces_of files i) (interfaces_flat files i flat) (from_interface n))

  -- ---- along superclasses

  module _ (rank : Name → ℕ) (r : Ranked files rank) where
    from_superclass : (n : ℕ) (class : Name) (o : Option Name) → rank class ≤ suc n
        → list_any (λ s. nat_le (rank class) (rank s)) (option_to_list o) ≡ false
        → first_found f (option_map_or (λ s. lineage_of files (suc n) s) o []) ≡ None
        → ((s : Name) → rank s ≤ n → first_found f (lineage_of files (suc n) s) ≡ None
        → first_found f (names_above (directly_above files above.Supertypes) n s)
        ≡ first_found f (flat_map (interfaces_above files) (lineage_of files (suc n) s)))
        → first_found f (flat_map (all_names n) (option_to_list o))
        ≡ first_found f (flat_map (interfaces_above files) (option_map_or (λ s. lineage_of files (suc n) s) o []))
    from_superclass n class None low late none same = refl
    from_superclass n class (Some s) low late none same =
        let less : rank s < rank class = leb-false (rank class) (rank s) (or_parts (nat_le (rank class) (rank s)) false late).0 in
        ap (first_found f) (append-nil (all_names n s))
        ∙ ap (λ o. option_or o (first_found f (names_above (directly_above files above.Supertypes) n s))) (neither (f s) _ none).0
        ∙ same s (omega arith) none

    -- where neither a class nor a superclass has it, all that is above the class has what all superinterfaces have
    from_class : (n : ℕ) (class : Name) → rank class ≤ n → first_found f (lineage_of files (suc n) class) ≡ None
        → first_found f (names_above (directly_above files above.Supertypes) n class)
        ≡ first_found f (flat_map (interfaces_above files) (lineage_of files (suc n) class))
    from_class zero class low none = let missing : class_of files class ≡ None = r.none class low in rw missing refl
    from_class (suc n) class low none =
        let few : rank class < length (classes_of files) = r.few class in
        let above_class = interfaces_above files class in
        let others = option_map_or (λ s. lineage_of files (suc n) s) (superclass_of files class) [] in
        in_parts n class
        ∙ ap (λ o. option_or o (first_found f (flat_map (all_names n) (option_to_list (superclass_of files class)))))
        (each_same (is_below_other files) (all_names n) (interface_names n) (superinterfaces_of files class) (interfaces_flat files class flat) (from_interface n)
        ∙ ap (first_found f) (steady files rank r above.Interfaces (suc n) (suc (length (classes_of files))) class low (omega arith) ∙ above_is files class))
        ∙ ap (option_or (first_found f above_class)) (from_superclass n class (superclass_of files class) low (r.superclass class) (neither (f class) _ none).1 (from_class n))
        ∙ sym (found-append f above_class (flat_map (interfaces_above files) others))

-- Where no class is above itself and superinterfaces are flat, what neither Object nor a class nor its superclasses have
-- is found among all that is above the class as it is among all superinterfaces.
pub among_supertypes : (files : Program) → SuperinterfacesAreFlat files → (f : Name → Option Member) → f java_lang_object ≡ None
    → (class : Name) → first_found f (lineage files class) ≡ None
    → first_found f (each_once (names_above (directly_above files above.Supertypes) (length (classes_of files) - 1) class))
    ≡ first_found f (all_superinterfaces files class)
among_supertypes files h f object class none =
    let n = length (classes_of files) - 1 in
    let rank = rank_of files h.ranked.ranks in
    let r = ranked_by files h.ranked in
    let count : length (classes_of files) ≡ suc n = class_count files in
    let few : rank class < length (classes_of files) = r.few class in
    found_once f (names_above (directly_above files above.Supertypes) n class)
    ∙ from_class files f object h.flat rank r n class (omega arith) (ap (λ k. first_found f (lineage_of files k class)) (sym count) ∙ none)
    ∙ ap (λ k. first_found f (flat_map (interfaces_above files) (lineage_of files k class))) (sym count)
