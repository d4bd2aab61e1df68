-- main of the initial class: where it stands, and its number.
use Rattle.std.proofs.Common.{◌≡◌, ◌∙◌, ℕ, [], ◌∷◌, ◌<◌, ◌^◌, Option, Some, None, false, refl, ap, subst}
use Rattle.std.specs.Prelude.{slice_get, option_map}
use Rattle.std.specs.Option.{option_map_or}
use Rattle.model.specs.Names.{Member, main_of}
use Rattle.model.specs.Tree.{FileTree, MethodTree}
use Rattle.model.specs.Classes.{Program, name_of}
use Rattle.model.specs.Lookup.{any_method, method_in_class, method_of, where_so}
use Rattle.model.specs.Step.{initial_class}
use Rattle.hierarchy.specs.Places as places
use Rattle.hierarchy.specs.Places.{class_at, member_in}
use Rattle.hierarchy.specs.declared.place.MemberPlace.{MemberPlace}
use Rattle.hierarchy.proofs.Indices.{file_behind}
use Rattle.run_laws.proofs.laws.LinkedMain.{main}
use Rattle.linker.specs.Linking.{IsLinked}
use Rattle.linker.proofs.field_links.OwnNames.{unrefused}
use Rattle.linked_code.specs.Numbers.{IsMethodAt}
use Rattle.method_tables.specs.method_links.Methods.{Names, member_at}
use Rattle.method_tables.proofs.method_links.Found.{place_names}
use Rattle.linked_program.proofs.class_rows.Counts.{number_fits}
use Rattle.linked_program.proofs.linked_calls.Specials.{numbered}

-- the class behind the built-in ones is that of the first file
pub first_file : (files : Program) (o : Option FileTree) → o ≡ class_at files 37 → option_map_or name_of o [] ≡ initial_class files
first_file files o e = ap (λ x. option_map_or name_of x []) (e ∙ file_behind files 0) ∙ by files
  where
    by : (files : Program) → option_map_or name_of (slice_get files 0) [] ≡ initial_class files
    by [] = refl
    by (file ∷ files) = refl

module _ (files : Program) (linked : IsLinked files) where
  abbrev the_main : Member
  the_main = main_of (initial_class files)

  declared : method_in_class files any_method the_main (initial_class files) ≡ Some the_main
  declared = by (method_of files the_main) (main files (unrefused files linked)).is_method
    where
      by : {m : MethodTree} (o : Option MethodTree) → o ≡ Some m → where_so (option_map_or any_method o false) the_main ≡ Some the_main
      by None e = absurd cc
      by (Some m) e = refl

  pub has_place : (o : Option MemberPlace)
      → option_map (λ p. member_in files the_main p) o ≡ method_in_class files any_method the_main (initial_class files) → o ≡ None → ⊥
  has_place o found none = by o (found ∙ declared) none
    where
      by : (o : Option MemberPlace) → option_map (λ p. member_in files the_main p) o ≡ Some the_main → o ≡ None → ⊥
      by None e n = absurd cc
      by (Some p) e n = absurd cc

  module _ (place : MemberPlace) (at : places.IsMethodAt files the_main place) where
    named : (o : Option ℕ) → Names files o (member_at files place) → Names files o (Some (member_in files the_main place))
    named o = subst (Names files o) (place_names files the_main place at)

    pub has_number : (o : Option ℕ) → Names files o (member_at files place) → o ≡ None → ⊥
    has_number o names none = by o (named o names) none
      where
        by : (o : Option ℕ) → Names files o (Some (member_in files the_main place)) → o ≡ None → ⊥
        by None e n = absurd cc
        by (Some k) e n = absurd cc

    pub main_fits : (number : ℕ) → Names files (Some number) (member_at files place) → number < 2 ^ 32
    main_fits number names = number_fits files linked number (member_at files place) names

    pub main_numbered : Some (member_in files the_main place) ≡ method_in_class files any_method the_main (initial_class files)
        → (number : ℕ) → Names files (Some number) (member_at files place) → IsMethodAt files number the_main
    main_numbered found number names = numbered files the_main place number found at names
