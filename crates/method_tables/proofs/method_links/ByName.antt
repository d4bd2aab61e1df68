-- What linked classes declare at a place is what the model finds by name.
use Rattle.std.proofs.Common.{◌≡◌, ℕ, [], refl, sym, ap, ◌∙◌, subst, true, false, Option, Some, None}
use Rattle.std.specs.Prelude.{slice_get, Bool}
use Rattle.std.specs.Option.{option_and_then, option_map, option_map_or}
use Rattle.std.specs.List.{list_all}
use Rattle.std.proofs.lemmas.Bool.{and_parts}
use Rattle.run_laws.proofs.laws.Found.{every_all, map_or_at}
use Rattle.model.specs.Tree.{FileTree, MethodTree, CodeTree}
use Rattle.model.specs.Conditions.{names_utf8, text_at}
use Rattle.model.specs.Classes.{Program, name_of, classes_of, class_of, declared_in, code_in, with_pool, body_in, body_of}
use Rattle.model.specs.Lookup.{method_of, is_static_method, is_private_method, is_synchronized_method, is_native_method, is_abstract_method}
use Rattle.model.specs.Calls.{is_one}
use Rattle.hierarchy.specs.Places.{name_at, class_at}
use Rattle.types.specs.method_code.Linked.{IsLinked}
use Rattle.types.proofs.method_code.Firsts.{method_there}
use Rattle.types.proofs.method_code.Rights.{method_right, class_right, classes_right}
use Rattle.method_tables.specs.method_links.Methods.{member_of, member_at}
use Rattle.method_tables.proofs.method_links.Numbering.{member_is}
use Rattle.method_tables.specs.method_links.Describing.{Describes}
use Rattle.method_tables.specs.method_links.Calls.{IsCallOf, IsTold, needs_of, body_needs}
use Rattle.method_tables.specs.declared.method_links.call.MethodCall.{MethodCall}
use Rattle.hierarchy.proofs.Apart.{class_of_its_name}
use Rattle.run_laws.proofs.laws.Unrefused.{names_differ}
use Rattle.run_laws.proofs.laws.Lists.{every_at}

pub class_found : (files : Program) (linked : IsLinked files) (class : ℕ) (file : FileTree) → class_at files class ≡ Some file
    → class_of files (name_of file) ≡ Some file
class_found files linked class file c = class_of_its_name files class file (names_differ files linked.1.no_refusal) c

module _ (files : Program) (linked : IsLinked files) (class k : ℕ) (file : FileTree) (m : MethodTree)
    (c : class_at files class ≡ Some file) (s : slice_get file.methods k ≡ Some m) where
  pub method_in_class : declared_in file (text_at file.pool m.name) (text_at file.pool m.descriptor) ≡ Some m
  method_in_class =
      let right : class_right file ≡ true = every_at (λ file. class_right file ≡ true) (classes_of files) class file (classes_right linked.0 files linked.1.spelled) c in
      let parts = and_parts (list_all (method_right file.pool) file.methods) _ right in
      let its : method_right file.pool m ≡ true = every_at (λ m. method_right file.pool m ≡ true) file.methods k m (every_all (method_right file.pool) file.methods parts.0) s in
      let named = and_parts (names_utf8 file.pool m.name) _ its in
      let described = and_parts (names_utf8 file.pool m.descriptor) _ named.1 in
      method_there file.pool file.methods k m parts.1 named.0 described.0 s

  pub method_found : method_of files (member_of file m) ≡ Some m
  method_found = ap (option_and_then (λ (f : FileTree). declared_in f (text_at file.pool m.name) (text_at file.pool m.descriptor))) (class_found files linked class file c) ∙ method_in_class

  is_so : (test : MethodTree → Bool) → is_one test files (member_of file m) ≡ test m
  is_so test = ap (λ o. option_map_or test o false) method_found

  body_found : body_of files (member_of file m) ≡ option_map (with_pool file.pool) (code_in m.parts)
  body_found =
      ap (option_and_then (body_in (text_at file.pool m.name) (text_at file.pool m.descriptor))) (class_found files linked class file c)
      ∙ ap (λ o. option_map (with_pool file.pool) (option_and_then (λ (m : MethodTree). code_in m.parts) o)) method_in_class

  needs_same : (o : Option CodeTree) → option_map body_needs (option_map (with_pool file.pool) o) ≡ option_map needs_of o
  needs_same None = refl
  needs_same (Some code) = refl

  pub call_is : (call : MethodCall) → Describes class file m call → IsCallOf files (member_of file m) call
  call_is call d = record {
    class = ap (name_at files) d.class ∙ map_or_at name_of (class_at files class) [] file c;
    operands = rw (is_so (λ m. is_static_method m)) d.operands;
    static = d.static ∙ sym (is_so is_static_method);
    private = d.private ∙ sym (is_so is_private_method);
    synchronized = d.synchronized ∙ sym (is_so is_synchronized_method);
    native = d.native ∙ sym (is_so is_native_method);
    abstract = d.abstract ∙ sym (is_so is_abstract_method);
    code = d.code ∙ sym (ap (option_map body_needs) body_found ∙ needs_same (code_in m.parts));
  }

  pub told_is : (call : MethodCall) → Describes class file m call
      → IsTold files (member_at files (record { class = class; member = k })) (Some call)
  told_is call d = subst (λ o. IsTold files o (Some call)) (sym (member_is files class k file m c s)) (call_is call d)
