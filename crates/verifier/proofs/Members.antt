-- Each method with code stands at a place.
use Rattle.std.proofs.Common.{◌≡◌, ℕ, zero, suc, ◌+◌, ◌-◌, ◌≤◌, List, [], ◌∷◌, ◌++◌, length, find, cond, Bool, true, false, Option, Some, None, refl, sym, ap, subst, ◌∙◌, arith}
use Rattle.std.specs.Prelude.{slice_get, is_some}
use Rattle.std.specs.Option.{option_and_then, option_map}
use Rattle.std.proofs.lemmas.Bool.{and_parts}
use Rattle.std.proofs.lemmas.Option.{slice_get_past, same_Some}
use Rattle.model.specs.Names.{Name, Member}
use Rattle.model.specs.Tree.{FileTree, MethodTree, CodeTree}
use Rattle.model.specs.Spelling.{entry_at}
use Rattle.model.specs.Conditions.{text_at}
use Rattle.model.specs.Classes.{Program, Body, with_pool, name_of, classes_of, is_named, class_of, is_method, declared_in, code_in, body_in, body_of}
use Rattle.model.specs.BuiltIn.{built_in_classes}
use Rattle.model.specs.Typing.{HasTyping, AreTyped}
use Rattle.run_laws.specs.examples.BuiltInTypings.{built_in_types}
use Rattle.run_laws.proofs.examples.TableProofs.{built_in_are_typed}
use Rattle.run_laws.proofs.examples.BuiltInTypingProofs.{each_typed}
use Rattle.run_laws.proofs.laws.Classes.{names_same}
use Rattle.hierarchy.specs.Places.{class_at}
use Rattle.hierarchy.proofs.Indices.{built_in_count}
use Rattle.types.specs.method_code.View.{member_named, shown_in, shown_at}
use Rattle.verifier.specs.Places.{IsTypedAt, AreTypedIn}
use Rattle.run_laws.proofs.laws.Homes.{spelled}

-- where what is found stands
pub record FoundAt {A : Type 0} (p : A → Bool) (xs : List A) (x : A) : Type 0 where
  pub place : ℕ
  pub there : slice_get xs place ≡ Some x
  pub passes : p x ≡ true

found_at : {A : Type 0} (p : A → Bool) (xs : List A) (x : A) → find p xs ≡ Some x → FoundAt p xs x
found_at p [] x e = absurd cc
found_at p (y ∷ ys) x e = by (p y) refl e (λ q. found_at p ys x q)
  where
    by : (b : Bool) → p y ≡ b → cond b (Some y) (find p ys) ≡ Some x → (find p ys ≡ Some x → FoundAt p ys x) → FoundAt p (y ∷ ys) x
    by true t q rest = let same = same_Some y x q in record { place = 0; there = q; passes = ap p (sym same) ∙ t }
    by false t q rest = let r = rest q in record { place = suc r.place; there = r.there; passes = r.passes }

member_is : (member : Member) (class name descriptor : Name) → class ≡ member.class → name ≡ member.name → descriptor ≡ member.descriptor
    → record { class = class; name = name; descriptor = descriptor } ≡ member
member_is member class name descriptor p q r =
    let a : Member = record { class = class; name = name; descriptor = descriptor } in
    let b : Member = record { class = member.class; name = name; descriptor = descriptor } in
    let c : Member = record { class = member.class; name = member.name; descriptor = descriptor } in
    let first : a ≡ b = ap (λ x. record { class = x; name = name; descriptor = descriptor }) p in
    let second : b ≡ c = ap (λ x. record { class = member.class; name = x; descriptor = descriptor }) q in
    let third : c ≡ member = ap (λ x. record { class = member.class; name = member.name; descriptor = x }) r in
    first ∙ (second ∙ third)

pub record StandsAt (files : Program) (member : Member) (body : Body) : Type 0 where
  pub class : ℕ
  pub method : ℕ
  pub file : FileTree
  pub at : slice_get (classes_of files) class ≡ Some file
  pub named : is_named member.class file ≡ true
  pub there : shown_at files class method ≡ Some (member, body)

module _ (files : Program) (member : Member) (body : Body) where
  by_code : (file : FileTree) (c : FoundAt (is_named member.class) (classes_of files) file) (m : MethodTree)
      (f : FoundAt (is_method file.pool member.name member.descriptor) file.methods m) (o : Option CodeTree) → code_in m.parts ≡ o
      → option_map (with_pool file.pool) o ≡ Some body → StandsAt files member body
  by_code file c m f None q e = absurd cc
  by_code file c m f (Some code) q e =
      let named = and_parts _ _ f.passes in
      let class = names_same (name_of file) member.class c.passes in
      let name = spelled (entry_at file.pool m.name) member.name named.0 in
      let descriptor = spelled (entry_at file.pool m.descriptor) member.descriptor named.1 in
      let same = member_is member (name_of file) (text_at file.pool m.name) (text_at file.pool m.descriptor) class name descriptor in
      record {
        class = c.place;
        method = f.place;
        file = file;
        at = c.there;
        named = c.passes;
        there = ap (option_and_then (λ (k : FileTree). option_and_then (shown_in k) (slice_get k.methods f.place))) c.there ∙ (ap (option_and_then (shown_in file)) f.there ∙ (ap (option_map (λ (code : CodeTree). (member_named (name_of file) file.pool m.name m.descriptor, with_pool file.pool code))) q ∙ (ap (λ x. Some (x, with_pool file.pool code)) same ∙ ap (λ b. Some (member, b)) (same_Some (with_pool file.pool code) body e))));
      }

  by_method : (file : FileTree) (c : FoundAt (is_named member.class) (classes_of files) file) (o : Option MethodTree)
      → declared_in file member.name member.descriptor ≡ o
      → option_map (with_pool file.pool) (option_and_then (λ (m : MethodTree). code_in m.parts) o) ≡ Some body → StandsAt files member body
  by_method file c None q e = absurd cc
  by_method file c (Some m) q e =
      by_code file c m (found_at (is_method file.pool member.name member.descriptor) file.methods m q) (code_in m.parts) refl e

  by_class : (o : Option FileTree) → class_of files member.class ≡ o
      → option_and_then (body_in member.name member.descriptor) o ≡ Some body → StandsAt files member body
  by_class None q e = absurd cc
  by_class (Some file) q e =
      by_method file (found_at (is_named member.class) (classes_of files) file q) (declared_in file member.name member.descriptor) refl e

  pub stands_at : body_of files member ≡ Some body → StandsAt files member body
  stands_at e = by_class (class_of files member.class) refl e

-- what passes a test, and stands in a list behind others none of which passes it
behind : {A : Type 0} (p : A → Bool) (xs ys : List A) (k : ℕ) (x : A) → slice_get (xs ++ ys) k ≡ Some x → p x ≡ true
    → is_some (find p (xs ++ [])) ≡ false → length xs ≤ k
behind p [] ys k x at passes none = omega arith
behind p (z ∷ zs) ys zero x at passes none =
    let same = same_Some z x at in
    false_true (sym none ∙ ap (λ b. is_some (cond b (Some z) (find p (zs ++ [])))) (ap p same ∙ passes))
  where
    false_true : {P : Type 0} → false ≡ true → P
    false_true e = absurd cc
behind p (z ∷ zs) ys (suc k) x at passes none =
    let rest = behind p zs ys k x at passes (by (p z) none) in omega (arith, rest)
  where
    by : (b : Bool) → is_some (cond b (Some z) (find p (zs ++ []))) ≡ false → is_some (find p (zs ++ [])) ≡ false
    by true e = absurd cc
    by false e = e

-- the methods of built-in classes have typings in each program
pub are_typed : (files : Program) → ((number method : ℕ) → IsTypedAt files (37 + number) method) → AreTyped files
are_typed files typed member body e = by (is_some (class_of [] member.class)) refl
  where
    by : (b : Bool) → is_some (class_of [] member.class) ≡ b → HasTyping files member body
    by true there = built_in_are_typed files built_in_types built_in_types (each_typed files) member body there e
    by false none =
        let s = stands_at files member body e in
        let more = behind (is_named member.class) built_in_classes files s.class s.file s.at s.named none in
        let place : 37 + (s.class - 37) ≡ s.class = omega (arith, more, built_in_count) in
        subst (λ class. IsTypedAt files class s.method) place (typed (s.class - 37) s.method) member body s.there

none_shown : (files : Program) (member : Member) (body : Body) (o : Option (Member × Body)) → o ≡ None → o ≡ Some (member, body)
    → HasTyping files member body
none_shown files member body o n e = none_some (member, body) (sym n ∙ e)
  where
    none_some : (x : Member × Body) → None ≡ Some x → HasTyping files member body
    none_some x q = absurd cc

-- past the classes, and past the methods of a class, there is none
pub none_past_classes : (files : Program) (class : ℕ) → length (classes_of files) ≤ class → AreTypedIn files class
none_past_classes files class l method member body e =
    none_shown files member body _ (ap (option_and_then (λ (k : FileTree). option_and_then (shown_in k) (slice_get k.methods method))) (slice_get_past (classes_of files) class l)) e

pub none_past_methods : (files : Program) (file : FileTree) (class method : ℕ) → class_at files class ≡ Some file
    → length file.methods ≤ method → IsTypedAt files class method
none_past_methods files file class method c l member body e =
    none_shown files member body _ (ap (option_and_then (λ (k : FileTree). option_and_then (shown_in k) (slice_get k.methods method))) c ∙ ap (option_and_then (shown_in file)) (slice_get_past file.methods method l)) e
