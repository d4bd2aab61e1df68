-- main of the initial class of linked files.
use Rattle.std.proofs.Common.{◌≡◌, List, [], ◌∷◌, true, false, not, Option, Some, None, refl, sym, ◌∙◌}
use Rattle.std.specs.Option.{option_map_or}
use Rattle.std.specs.List.{AllByRecursion, list_any}
use Rattle.std.proofs.lemmas.Bool.{false≢true, true≢false, not-true, and_left, and_right, or_from, not-false}
use Rattle.model.specs.Names.{Name, name_eq, Member, main_of}
use Rattle.model.specs.Tree.{MethodTree, FileTree}
use Rattle.model.specs.AccessFlags.{is_static_method}
use Rattle.model.specs.Classes.{Program, Body, name_of, body_of}
use Rattle.model.specs.Lookup.{method_of}
use Rattle.model.specs.BuiltInMethods.{BuiltInMethod, built_in_methods, is_row_of}
use Rattle.run_laws.proofs.laws.Found.{every_all}
use Rattle.run_laws.proofs.laws.Linked.{is_of_the_machine, Main}
use Rattle.run_laws.proofs.laws.Unrefused.{Unrefused}
use Rattle.run_laws.proofs.laws.LinkedMethods.{native, static_is_concrete}

no_row : (method : Member) (rows : List (Member × BuiltInMethod))
    → AllByRecursion (λ row. not (name_eq row.0.name method.name) ≡ true) rows → list_any (is_row_of method) rows ≡ false
no_row method [] h = refl
no_row method (row ∷ rows) h =
    or_from (is_row_of method row) _
    (and_right (name_eq row.0.class method.class) _ (and_left (name_eq row.0.name method.name) _ (not-true (name_eq row.0.name method.name) h.0)))
    (no_row method rows h.1)

-- no method of the machine is a main
main_is_declared : (class : Name) → is_of_the_machine (main_of class) ≡ false
main_is_declared class =
    or_from _ _ (no_row (main_of class) built_in_methods (every_all (λ row. not (name_eq row.0.name (main_of class).name)) built_in_methods refl)) refl

has_body : (files : Program) (ok : Unrefused files) (class : Name) (m : MethodTree) → method_of files (main_of class) ≡ Some m
    → is_static_method m ≡ true → (o : Option Body) → body_of files (main_of class) ≡ o
    → (body : Body) × (body_of files (main_of class) ≡ Some body)
has_body files ok class m e s (Some body) q = (body, q)
has_body files ok class m e s None q =
    absurd (false≢true (sym (main_is_declared class) ∙ native files ok (main_of class) m e (static_is_concrete files ok (main_of class) m e s) q))

has_main : (file : FileTree) (files : Program) (ok : Unrefused (file ∷ files)) → (o : Option MethodTree)
    → method_of (file ∷ files) (main_of (name_of file)) ≡ o → not (option_map_or is_static_method o false) ≡ false → Main (file ∷ files)
has_main file files ok None e h = absurd (true≢false h)
has_main file files ok (Some m) e h =
    let static : is_static_method m ≡ true = not-false (is_static_method m) h in
    let body = has_body (file ∷ files) ok (name_of file) m e static (body_of (file ∷ files) (main_of (name_of file))) refl in
    record { method = m; is_method = e; is_static = static; body = body.0; is_body = body.1 }

pub main : (files : Program) → Unrefused files → Main files
main [] ok = absurd (true≢false ok.some_file)
main (file ∷ files) ok = has_main file files ok (method_of (file ∷ files) (main_of (name_of file))) refl ok.main
