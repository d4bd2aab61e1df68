-- Where a class and a method are declared, and what holds of each class and of each method of a program.
use Rattle.std.proofs.Common.{◌≡◌, true, Option, Some, None, refl, sym}
use Rattle.std.specs.Option.{option_and_then, option_map}
use Rattle.std.specs.List.{AllByRecursion}
use Rattle.std.proofs.lemmas.Bool.{false≢true, and_parts}
use Rattle.model.specs.Names.{Name, spells, Member}
use Rattle.model.specs.Tree.{Entry, Utf8, Integer, Float, Long, Double, Class, String, Field, Method, InterfaceMethod, NameAndType, Unusable, MethodTree, CodeTree, FileTree}
use Rattle.model.specs.Spelling.{entry_at, text_of}
use Rattle.model.specs.Pool.{utf8_of}
use Rattle.model.specs.Conditions.{text_at}
use Rattle.model.specs.BuiltIn.{built_in_classes}
use Rattle.model.specs.Classes.{Program, name_of, classes_of, is_named, class_of, is_method, declared_in, code_in, Body, with_pool, body_in, body_of}
use Rattle.model.specs.Lookup.{method_of}
use Rattle.run_laws.proofs.laws.Lists.{every_append}
use Rattle.run_laws.proofs.laws.Classes.{names_same}
use Rattle.run_laws.proofs.laws.Found.{found_passes, found_has, some_from}

-- a text that is found is the one that stands there
pub spelled : (e : Entry) (name : Name) → spells (utf8_of e) name ≡ true → text_of e ≡ name
spelled (Utf8 text) name h = names_same text name h
spelled (Integer bits) name h = absurd (false≢true h)
spelled (Float bits) name h = absurd (false≢true h)
spelled (Long bits) name h = absurd (false≢true h)
spelled (Double bits) name h = absurd (false≢true h)
spelled (Class index) name h = absurd (false≢true h)
spelled (String index) name h = absurd (false≢true h)
spelled (Field class index) name h = absurd (false≢true h)
spelled (Method class index) name h = absurd (false≢true h)
spelled (InterfaceMethod class index) name h = absurd (false≢true h)
spelled (NameAndType index descriptor) name h = absurd (false≢true h)
spelled Unusable name h = absurd (false≢true h)

-- the class of a method, and its texts
pub record Home (files : Program) (method : Member) (m : MethodTree) : Type 0 where
  pub file : FileTree
  pub is_class : class_of files method.class ≡ Some file
  pub is_declared : declared_in file method.name method.descriptor ≡ Some m
  pub named : name_of file ≡ method.class
  pub name : text_at file.pool m.name ≡ method.name
  pub descriptor : text_at file.pool m.descriptor ≡ method.descriptor

-- a method with code, and where
pub record Coded (files : Program) (method : Member) (body : Body) : Type 0 where
  pub method_tree : MethodTree
  pub home : Home files method method_tree
  pub code : CodeTree
  pub is_code : code_in method_tree.parts ≡ Some code
  pub is_body : body ≡ with_pool home.file.pool code

module _ (files : Program) where
  pub class_named : (c : Name) (file : FileTree) → class_of files c ≡ Some file → name_of file ≡ c
  class_named c file e = names_same (name_of file) c (found_passes (is_named c) (classes_of files) file e)

  -- what holds of each class
  pub class_has : (P : FileTree → Type 0) → AllByRecursion P built_in_classes → AllByRecursion P files → (c : Name) (file : FileTree)
      → class_of files c ≡ Some file → P file
  class_has P a b c file e = found_has P (is_named c) (classes_of files) file (every_append P built_in_classes files a b) e

  home_in : (method : Member) (m : MethodTree) (file : FileTree) → class_of files method.class ≡ Some file
      → declared_in file method.name method.descriptor ≡ Some m → Home files method m
  home_in method m file c d =
      let texts = and_parts _ _ (found_passes (is_method file.pool method.name method.descriptor) file.methods m d) in
      record {
        file = file;
        is_class = c;
        is_declared = d;
        named = class_named method.class file c;
        name = spelled (entry_at file.pool m.name) method.name texts.0;
        descriptor = spelled (entry_at file.pool m.descriptor) method.descriptor texts.1;
      }

  pub home_of : (method : Member) (m : MethodTree) → method_of files method ≡ Some m → Home files method m
  home_of method m e =
      let f = some_from (λ file. declared_in file method.name method.descriptor) (class_of files method.class) m e in
      home_in method m f.0 f.1 f.2

  -- what holds of each method of each class
  pub method_has : (Q : FileTree → MethodTree → Type 0) → AllByRecursion (λ file. AllByRecursion (Q file) file.methods) built_in_classes
      → AllByRecursion (λ file. AllByRecursion (Q file) file.methods) files → (method : Member) (m : MethodTree) (h : Home files method m)
      → Q h.file m
  method_has Q a b method m h =
      found_has (Q h.file) (is_method h.file.pool method.name method.descriptor) h.file.methods m
      (class_has (λ file. AllByRecursion (Q file) file.methods) a b method.class h.file h.is_class) h.is_declared

  code_then : (method : Member) (body : Body) (m : MethodTree) (h : Home files method m) → (o : Option CodeTree) → code_in m.parts ≡ o
      → option_map (with_pool h.file.pool) o ≡ Some body → Coded files method body
  code_then method body m h None q e = absurd cc
  code_then method body m h (Some code) q e = record { method_tree = m; home = h; code = code; is_code = q; is_body = let s : with_pool h.file.pool code ≡ body = cc in sym s }

  coded_in : (method : Member) (body : Body) (file : FileTree) → class_of files method.class ≡ Some file → (o : Option MethodTree)
      → declared_in file method.name method.descriptor ≡ o
      → option_map (with_pool file.pool) (option_and_then (λ (m : MethodTree). code_in m.parts) o) ≡ Some body → Coded files method body
  unfolding home_in
  coded_in method body file c None d e = absurd cc
  coded_in method body file c (Some m) d e = code_then method body m (home_in method m file c d) (code_in m.parts) refl e

  pub coded_of : (method : Member) (body : Body) → body_of files method ≡ Some body → Coded files method body
  coded_of method body e =
      let f = some_from (body_in method.name method.descriptor) (class_of files method.class) body e in
      coded_in method body f.0 f.1 (declared_in f.0 method.name method.descriptor) refl f.2
