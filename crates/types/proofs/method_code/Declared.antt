-- Where the method at a place is declared, and the model's body of it.
use Rattle.std.proofs.Common.{◌≡◌, ℕ, List, [], length, get_or, map, ltb, true, Some, sym, ap, ◌∙◌}
use Rattle.std.specs.Prelude.{slice_get, nat_lt}
use Rattle.std.specs.Option.{option_and_then, option_map}
use Rattle.std.proofs.lemmas.Bool.{and_parts}
use Rattle.model.specs.Tree.{FileTree, MethodTree, CodeTree}
use Rattle.model.specs.Conditions.{names_utf8}
use Rattle.model.specs.Classes.{Program, name_of, classes_of, class_of, declared_in, code_in, with_pool, body_in}
use Rattle.model.specs.Classes as classes
use Rattle.model.specs.Lookup.{method_of}
use Rattle.std.specs.List.{list_all}
use Rattle.run_laws.proofs.laws.Found.{every_all, map_or_at}
use Rattle.hierarchy.specs.Places.{name_at, class_at}
use Rattle.types.specs.declared.method_code.declaration.MethodCode.{MethodCode}
use Rattle.types.specs.method_code.Declaration.{IsDeclared}
use Rattle.types.specs.method_code.Linked.{IsLinked}
use Rattle.types.specs.method_code.View.{files_of, member_named, member_of, body_of, shown_in, shown_at}
use Rattle.types.proofs.method_code.Firsts.{method_there}
use Rattle.class_tree.specs.declared.tree.Method.{Method}
use Rattle.std.proofs.lemmas.Option.{slice_get-map, slice_get-get_or}
use borrow.Author.Tests.{ltb-true}
use Rattle.class_tree.specs.View as view
use Rattle.types.proofs.method_code.Rights.{method_right, class_right, classes_right}
use Rattle.hierarchy.proofs.Apart.{class_of_its_name}
use Rattle.run_laws.proofs.laws.Unrefused.{names_differ}
use Rattle.run_laws.proofs.laws.Lists.{every_at}

pub declared_at : (files : Program) (class k : ℕ) (file : FileTree) (m : MethodTree) (code : CodeTree) → IsLinked files
    → class_at files class ≡ Some file → slice_get file.methods k ≡ Some m → code_in m.parts ≡ Some code
    → IsDeclared files class file m code
declared_at files class k file m code linked c s q =
    let right : class_right file ≡ true = every_at (λ file. class_right file ≡ true) (classes_of files) class file (classes_right linked.0 files linked.1.spelled) c in
    let parts = and_parts (list_all (method_right file.pool) file.methods) _ right in
    let its : method_right file.pool m ≡ true = every_at (λ m. method_right file.pool m ≡ true) file.methods k m (every_all (method_right file.pool) file.methods parts.0) s in
    let named = and_parts (names_utf8 file.pool m.name) _ its in
    let described = and_parts (names_utf8 file.pool m.descriptor) _ named.1 in
    let name : name_at files class ≡ name_of file = map_or_at name_of (class_at files class) [] file c in
    record {
      is_class = ap (class_of files) name ∙ class_of_its_name files class file (names_differ files linked.1.no_refusal) c;
      is_method = method_there file.pool file.methods k m parts.1 named.0 described.0 s;
      is_code = q;
      is_short = ltb-true (length code.code) 65536 (sym (map_or_at (λ (c : CodeTree). nat_lt (length c.code) 65536) (code_in m.parts) true code q) ∙ described.1);
    }

-- the model finds the method and its body
module _ (m : MethodCode) where
  pub is_declared : method_of (files_of m) (member_of m) ≡ Some (view.method_of m.method.now)
  is_declared = ap (option_and_then (λ file. declared_in file (member_of m).name (member_of m).descriptor)) m.declared.is_class ∙ m.declared.is_method

  pub is_body : classes.body_of (files_of m) (member_of m) ≡ Some (body_of m)
  is_body =
      ap (option_and_then (body_in (member_of m).name (member_of m).descriptor)) m.declared.is_class
      ∙ ap (λ o. option_map (with_pool m.file.now.pool) (option_and_then (λ (m : MethodTree). code_in m.parts) o)) m.declared.is_method
      ∙ ap (option_map (with_pool m.file.now.pool)) m.declared.is_code

-- ---- by place

-- what a slice of methods has at an index, by what `get` gave
pub method_at : (read items : List Method) (k : ℕ) (m : Method) → read ≡ items → true ≡ ltb k (length read) → m ≡ get_or read k m
    → slice_get (map view.method_of items) k ≡ Some (view.method_of m)
method_at read items k m same lt is =
    slice_get-map view.method_of items k
    ∙ ap (option_map view.method_of) (ap (λ (l : List Method). slice_get l k) (sym same) ∙ slice_get-get_or read k m (ltb-true _ _ (sym lt)) ∙ ap (λ m. Some m) (sym is))

pub shown_here : (files : Program) (class k : ℕ) (file : FileTree) (m : MethodTree) (code : CodeTree) → class_at files class ≡ Some file
    → slice_get file.methods k ≡ Some m → code_in m.parts ≡ Some code
    → Some (member_named (name_at files class) file.pool m.name m.descriptor, with_pool file.pool code) ≡ shown_at files class k
shown_here files class k file m code c s q =
    ap (λ n. Some (member_named n file.pool m.name m.descriptor, with_pool file.pool code)) (map_or_at name_of (class_at files class) [] file c)
    ∙ sym (
    ap (option_and_then (λ (f : FileTree). option_and_then (shown_in f) (slice_get f.methods k))) c
    ∙ ap (option_and_then (shown_in file)) s
    ∙ ap (option_map (λ (code : CodeTree). (member_named (name_of file) file.pool m.name m.descriptor, with_pool file.pool code))) q)
