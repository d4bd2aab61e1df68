-- The main of the first file.
use Rattle.std.proofs.Common.{◌≡◌, Bool, true, false, not, [], ◌∷◌, refl, sym, ap, ◌∙◌, Option, Some, None}
use Rattle.std.specs.Prelude.{slice_get}
use Rattle.std.specs.Option.{option_and_then, option_map_or}
use Rattle.model.specs.Names.{main_of}
use Rattle.model.specs.Tree.{FileTree}
use Rattle.model.specs.AccessFlags.{is_static_method}
use Rattle.model.specs.BuiltIn.{built_in_classes}
use Rattle.model.specs.Classes.{Program, name_of, class_of, classes_of, declared_in}
use Rattle.model.specs.Linkable.{stands, NoMain}

-- whether a class declares a static main, where there is one
abbrev pub main_in : Option FileTree → Bool
main_in class = option_map_or is_static_method (option_and_then (λ file. declared_in file (main_of []).name (main_of []).descriptor) class) false

-- behind the built-in classes stands the first file
at_first : (files : Program) → slice_get (classes_of files) 37 ≡ slice_get files 0
unfolding built_in_classes
at_first files = refl

pub no_first : (files : Program) → slice_get (classes_of files) 37 ≡ None → true ≡ stands files NoMain
no_first [] e = refl
no_first (file ∷ files) e = absurd (no (sym (at_first (file ∷ files)) ∙ e))
  where
    no : Some file ≡ None → ⊥
    no h = cc

pub of_first : (files : Program) (first : FileTree) (class : Option FileTree) → slice_get (classes_of files) 37 ≡ Some first
    → class_of files (name_of first) ≡ class → not (main_in class) ≡ stands files NoMain
of_first [] first class e h = absurd (no (sym (at_first []) ∙ e))
  where
    no : None ≡ Some first → ⊥
    no h = cc
of_first (file ∷ files) first class e h =
    let same : Some first ≡ Some file = sym e ∙ at_first (file ∷ files) in
    let name : first ≡ file = cc in
    ap (λ o. not (main_in o)) (sym h ∙ ap (λ (f : FileTree). class_of (file ∷ files) (name_of f)) name)
