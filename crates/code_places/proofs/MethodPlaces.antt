-- What stands at the place of a method's number.
use Rattle.std.proofs.Common.{◌≡◌, ◌<◌, ◌≤◌, ℕ, zero, suc, List, [], ◌∷◌, true, Option, Some, None, length, refl, sym, ap, subst, ◌∙◌, arith}
use Rattle.std.specs.Prelude.{slice_get}
use Rattle.std.specs.Option.{option_and_then, option_map}
use Rattle.std.specs.List.{list_all}
use Rattle.std.proofs.lemmas.Bool.{and_parts}
use Rattle.model.specs.Names.{Member}
use Rattle.model.specs.Tree.{FileTree, MethodTree, CodeTree}
use Rattle.model.specs.Conditions.{names_utf8, text_at}
use Rattle.model.specs.Classes.{Program, Body, classes_of, declared_in, code_in, with_pool, body_in}
use Rattle.model.specs.Classes as classes
use Rattle.run_laws.proofs.laws.Found.{every_all}
use Rattle.run_laws.proofs.laws.Lists.{every_at}
use Rattle.run_laws.proofs.laws.Unrefused.{names_differ}
use Rattle.hierarchy.specs.Places.{class_at}
use Rattle.hierarchy.specs.declared.place.MemberPlace.{MemberPlace}
use Rattle.hierarchy.proofs.Apart.{class_of_its_name}
use Rattle.linked_code.specs.Numbers.{IsMethodAt}
use Rattle.linked_code.specs.Numbers as linked_code
use Rattle.types.specs.declared.method_code.declaration.MethodCode.{MethodCode}
use Rattle.types.specs.method_code.Linked.{IsLinked}
use Rattle.types.specs.method_code.View.{shown, shown_in, shown_at}
use Rattle.types.proofs.method_code.Firsts.{method_there}
use Rattle.types.proofs.method_code.Rights.{method_right, class_right, classes_right}
use Rattle.method_tables.specs.method_links.Methods.{member_of, member_at, methods_of}
use Rattle.method_tables.specs.method_links.Methods as method_links
use Rattle.code_places.specs.Methods.{IsMethodOf, with_body}

-- ---- the place of a number

pub same_methods : (files : Program) → method_links.methods_of files ≡ linked_code.methods_of files
unfolding method_links.methods_of linked_code.methods_of
same_methods files = refl

placed : (files : Program) (number : ℕ) (place : MemberPlace)
    → option_map (member_at files) (Some place) ≡ option_map (λ (m : Member). Some m) (slice_get (methods_of files) number)
    → (method : Member) → IsMethodAt files number method → member_at files place ≡ Some method
placed files number place e method at =
    let is : slice_get (methods_of files) number ≡ Some method = ap (λ l. slice_get l number) (same_methods files) ∙ at in
    let both : Some (member_at files place) ≡ Some (Some method) = e ∙ ap (option_map (λ (m : Member). Some m)) is in
    cc

pub no_place : (files : Program) (number : ℕ) → None ≡ option_map (λ (m : Member). Some m) (slice_get (methods_of files) number)
    → (found : Option MethodCode) → IsMethodOf files number found
no_place files number e found method at =
    let is : slice_get (methods_of files) number ≡ Some method = ap (λ l. slice_get l number) (same_methods files) ∙ at in
    let bad : None ≡ Some (Some method) = e ∙ ap (option_map (λ (m : Member). Some m)) is in
    absurd cc

-- ---- what stands there

record IsThere (files : Program) (place : MemberPlace) (method : Member) : Type 0 where
  file : FileTree
  class_is : class_at files place.class ≡ Some file
  tree : MethodTree
  tree_is : slice_get file.methods place.member ≡ Some tree
  is : member_of file tree ≡ method

there : (files : Program) (place : MemberPlace) (method : Member) → member_at files place ≡ Some method → IsThere files place method
there files place method e = by (class_at files place.class) refl e
  where
    within : (file : FileTree) → class_at files place.class ≡ Some file → (o : Option MethodTree) → slice_get file.methods place.member ≡ o
        → option_map (member_of file) o ≡ Some method → IsThere files place method
    within file c None s e = absurd cc
    within file c (Some tree) s e = record { file = file; class_is = c; tree = tree; tree_is = s; is = cc }

    by : (o : Option FileTree) → class_at files place.class ≡ o
        → option_and_then (λ (file : FileTree). option_map (member_of file) (slice_get file.methods place.member)) o ≡ Some method
        → IsThere files place method
    by None c e = absurd cc
    by (Some file) c e = within file c (slice_get file.methods place.member) refl e

-- ---- its code

module _ (files : Program) (linked : IsLinked files) (place : MemberPlace) (method : Member) (t : IsThere files place method) where
  abbrev tree : MethodTree
  tree = t.tree

  declared : declared_in t.file (text_at t.file.pool tree.name) (text_at t.file.pool tree.descriptor) ≡ Some tree
  declared =
      let right : class_right t.file ≡ true = every_at (λ file. class_right file ≡ true) (classes_of files) place.class t.file (classes_right linked.0 files linked.1.spelled) t.class_is in
      let parts = and_parts (list_all (method_right t.file.pool) t.file.methods) _ right in
      let its : method_right t.file.pool tree ≡ true = every_at (λ m. method_right t.file.pool m ≡ true) t.file.methods place.member tree (every_all (method_right t.file.pool) t.file.methods parts.0) t.tree_is in
      let named = and_parts (names_utf8 t.file.pool tree.name) _ its in
      let described = and_parts (names_utf8 t.file.pool tree.descriptor) _ named.1 in
      method_there t.file.pool t.file.methods place.member tree parts.1 named.0 described.0 t.tree_is

  own_body : classes.body_of files (member_of t.file tree) ≡ option_map (with_pool t.file.pool) (code_in tree.parts)
  own_body =
      ap (option_and_then (body_in (text_at t.file.pool tree.name) (text_at t.file.pool tree.descriptor))) (class_of_its_name files place.class t.file (names_differ files linked.1.no_refusal) t.class_is)
      ∙ ap (λ o. option_map (with_pool t.file.pool) (option_and_then (λ (m : MethodTree). code_in m.parts) o)) declared

  its_body : classes.body_of files method ≡ option_map (with_pool t.file.pool) (code_in tree.parts)
  its_body = ap (classes.body_of files) (sym t.is) ∙ own_body

  its_code : shown_at files place.class place.member
      ≡ option_map (λ (code : CodeTree). with_body (member_of t.file tree) (with_pool t.file.pool code)) (code_in tree.parts)
  its_code =
      ap (option_and_then (λ (f : FileTree). option_and_then (shown_in f) (slice_get f.methods place.member))) t.class_is
      ∙ ap (option_and_then (shown_in t.file)) t.tree_is

  paired : (code : Option CodeTree) → option_map (λ (code : CodeTree). with_body (member_of t.file tree) (with_pool t.file.pool code)) code
      ≡ option_map (with_body method) (option_map (with_pool t.file.pool) code)
  paired None = refl
  paired (Some code) = ap (λ (m : Member). Some (with_body m (with_pool t.file.pool code))) t.is

  is_its : (found : Option MethodCode) → option_map shown found ≡ shown_at files place.class place.member
      → option_map shown found ≡ option_map (with_body method) (classes.body_of files method)
  is_its found e = e ∙ its_code ∙ paired (code_in tree.parts) ∙ ap (option_map (with_body method)) (sym its_body)

pub found_there : (files : Program) → IsLinked files → (number : ℕ) (place : MemberPlace)
    → option_map (member_at files) (Some place) ≡ option_map (λ (m : Member). Some m) (slice_get (methods_of files) number)
    → (found : Option MethodCode) → option_map shown found ≡ shown_at files place.class place.member
    → IsMethodOf files number found
found_there files linked number place e found is method at = is_its files linked place method (there files place method (placed files number place e method at)) found is

-- ---- how many there are

pub counted_methods : (files : Program) (count : ℕ) → count ≡ length (methods_of files) → count ≡ length (linked_code.methods_of files)
counted_methods files count is = is ∙ ap length (same_methods files)
