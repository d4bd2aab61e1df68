-- The conditions of linking, of each file of a program in which none stands.
use Rattle.std.proofs.Common.{◌≡◌, ℕ, List, [], ◌∷◌, false}
use Rattle.std.specs.List.{AllByRecursion}
use Rattle.std.proofs.lemmas.Bool.{or_parts}
use Rattle.model.specs.Spells.{IsWhole}
use Rattle.model.specs.Classes.{Program}
use Rattle.model.specs.Profile.{is_outside_profile}
use Rattle.model.specs.Hierarchy.{has_bad_hierarchy}
use Rattle.model.specs.Resolution.{is_unresolved}
use Rattle.model.specs.Linkable.{too_many_files, too_many_strings, no_file, no_static_main, AreSpelled, stands, some_stands, TooLarge, DuplicateClass, OutsideProfile, MalformedCode, BadHierarchy, Unresolved, TooManyFields, NoMain}
use Rattle.run_laws.proofs.laws.Found.{none_any}
use Rattle.run_laws.proofs.laws.Decoding.{IsWellFormed, well_formed_all}

pub record Unrefused (files : Program) : Type 0 where
  pub whole : AllByRecursion IsWhole files
  pub profile : AllByRecursion (λ file. is_outside_profile file ≡ false) files
  pub code : AllByRecursion (IsWellFormed files) files
  pub hierarchy : AllByRecursion (λ file. has_bad_hierarchy files file ≡ false) files
  pub resolved : AllByRecursion (λ file. is_unresolved files file ≡ false) files
  pub some_file : no_file files ≡ false
  pub main : no_static_main files ≡ false
  pub files_fit : too_many_files files ≡ false
  pub strings_fit : too_many_strings files ≡ false

whole_files : (bytes : List (List ℕ)) (files : Program) → AreSpelled bytes files → AllByRecursion IsWhole files
whole_files [] [] h = tt
whole_files [] (file ∷ files) h = absurd h
whole_files (b ∷ bytes) [] h = tt
whole_files (b ∷ bytes) (file ∷ files) h = (h.0.whole, whole_files bytes files h.1)

pub unrefused_of : (bytes : List (List ℕ)) (files : Program) → AreSpelled bytes files → some_stands files ≡ false → Unrefused files
unrefused_of bytes files spelled h =
    let main = or_parts _ _ h in
    let fields = or_parts _ _ main.1 in
    let names = or_parts _ _ fields.1 in
    let above = or_parts _ _ names.1 in
    let profile = or_parts _ _ above.1 in
    let code = or_parts _ _ profile.1 in
    let large = or_parts _ _ code.1 in
    let sizes = or_parts _ _ large.0 in
    let no_main = or_parts _ _ main.0 in
    record {
      whole = whole_files bytes files spelled;
      profile = none_any is_outside_profile files profile.0;
      code = well_formed_all files files profile.0 code.0;
      hierarchy = none_any (has_bad_hierarchy files) files above.0;
      resolved = none_any (is_unresolved files) files names.0;
      some_file = no_main.0;
      main = no_main.1;
      files_fit = sizes.0;
      strings_fit = sizes.1;
    }

-- names of classes differ in linked files
pub names_differ : (files : Program) → some_stands files ≡ false → stands files DuplicateClass ≡ false
names_differ files h =
    let main = or_parts (stands files NoMain) _ h in
    let fields = or_parts (stands files TooManyFields) _ main.1 in
    let names = or_parts (stands files Unresolved) _ fields.1 in
    let above = or_parts (stands files BadHierarchy) _ names.1 in
    let profile = or_parts (stands files OutsideProfile) _ above.1 in
    let code = or_parts (stands files MalformedCode) _ profile.1 in
    let large = or_parts (stands files TooLarge) _ code.1 in
    (or_parts (stands files DuplicateClass) _ large.1).0
