-- Programs each of whose methods has a typing of a table, by a test.
use Rattle.std.proofs.Common.{◌≡◌, ◌⊎◌, inl, ⊎_elim, refl, subst, ℕ, List, [], ◌∷◌, ◌++◌, Option, Some, None, Bool, true, false, ◌||◌}
use Rattle.std.specs.Prelude.{find, if◌then◌else◌, cond, is_some}
use Rattle.std.specs.Option.{option_map, option_and_then}
use Rattle.std.specs.List.{list_all}
use Rattle.std.proofs.lemmas.Bool.{false≢true, and_parts, and_from, or_left, or_right, or_cases}
use Rattle.std.proofs.lemmas.Option.{none-some, same_Some}
use Rattle.std.proofs.lemmas.Slice.Eq.{bytes_eq-Decides}
use Rattle.model.specs.Names.{Name, Member, name_eq, spells, member_eq}
use Rattle.model.specs.Tree.{CodeTree, FileTree, MethodTree}
use Rattle.model.specs.Pool.{utf8_at}
use Rattle.model.specs.BuiltIn.{built_in_classes}
use Rattle.model.specs.Classes.{Program, Body, name_of, class_of, is_named, is_method, declared_in, code_in, with_pool, body_in, body_of}
use Rattle.model.specs.TypeOrder.{FrameType}
use Rattle.model.specs.Typing.{HasTyping, AreTyped}
use Rattle.run_laws.specs.examples.Typings.{typing_in}
use Rattle.run_laws.proofs.examples.TypingProofs.{is_typing, is_typed}

-- ---- a test of a program

-- frame types of methods
abbrev pub Table : Type 0
Table = List (Member × List (ℕ × FrameType))

abbrev types_in : Table → Member → List (ℕ × FrameType)
types_in [] m = []
types_in (entry ∷ table) m = if member_eq entry.0 m then entry.1 else types_in table m

abbrev is_typed_by : Program → Table → Member → Body → Bool
is_typed_by files table m body = is_typing files m body (types_in table m)

-- a method of this name and descriptor with this code; what has no name, no descriptor or no code needs no types
abbrev named_typed : Program → Table → FileTree → Option Name → Option Name → Option CodeTree → Bool
named_typed files table file None descriptor code = true
named_typed files table file (Some name) None code = true
named_typed files table file (Some name) (Some descriptor) None = true
named_typed files table file (Some name) (Some descriptor) (Some code) =
    is_typed_by files table (record { class = name_of file; name = name; descriptor = descriptor }) (with_pool file.pool code)

abbrev method_typed : Program → Table → FileTree → MethodTree → Bool
method_typed files table file m = named_typed files table file (utf8_at file.pool m.name) (utf8_at file.pool m.descriptor) (code_in m.parts)

abbrev pub class_typed : Program → Table → FileTree → Bool
class_typed files table file = list_all (method_typed files table file) file.methods

-- ---- what `find` finds

-- at the head it is the head; otherwise it is in the rest
found_by : {A : Type 0} (test holds : A → Bool) (x y : A) (rest : Option A) (b : Bool) → test x ≡ b → holds x ≡ true
    → (b ≡ false → rest ≡ Some y → (test y ≡ true) × (holds y ≡ true)) → cond b (Some x) rest ≡ Some y
    → (test y ≡ true) × (holds y ≡ true)
found_by test holds x y rest true t h go e =
    let q = same_Some x y e in (subst (λ z. test z ≡ true) q t, subst (λ z. holds z ≡ true) q h)
found_by test holds x y rest false t h go e = go refl e

-- it passes the test, and what holds of each element holds of it
found : {A : Type 0} (test holds : A → Bool) (xs : List A) (y : A) → list_all holds xs ≡ true → find test xs ≡ Some y
    → (test y ≡ true) × (holds y ≡ true)
found test holds [] y h e = absurd (none-some y e)
found test holds (x ∷ xs) y h e =
    let g = and_parts (holds x) (list_all holds xs) h in
    found_by test holds x y (find test xs) (test x) refl g.0 (λ b r. found test holds xs y g.1 r) e

-- where the first of two lists has one, it is found there
found_first : {A : Type 0} (test holds : A → Bool) (xs ys : List A) (y : A) → list_all holds xs ≡ true
    → is_some (find test (xs ++ [])) ≡ true → find test (xs ++ ys) ≡ Some y → (test y ≡ true) × (holds y ≡ true)
found_first test holds [] ys y h there e = absurd (false≢true there)
found_first test holds (x ∷ xs) ys y h there e =
    let g = and_parts (holds x) (list_all holds xs) h in
    found_by test holds x y (find test (xs ++ ys)) (test x) refl g.0
    (λ b r. found_first test holds xs ys y g.1 (subst (λ c. is_some (cond c (Some x) (find test (xs ++ []))) ≡ true) b there) r)
    e

-- what holds of each element of the one list or the other
both : {A : Type 0} (holds more : A → Bool) (xs ys : List A) → list_all holds xs ≡ true → list_all more ys ≡ true
    → list_all (λ x. holds x || more x) (xs ++ ys) ≡ true
both holds more [] [] h k = refl
both holds more [] (y ∷ ys) h k =
    let g = and_parts (more y) (list_all more ys) k in and_from _ _ (or_right (holds y) (more y) g.0) (both holds more [] ys h g.1)
both holds more (x ∷ xs) ys h k =
    let g = and_parts (holds x) (list_all holds xs) h in and_from _ _ (or_left (holds x) (more x) g.0) (both holds more xs ys g.1 k)

-- ---- a body is that of a class of the program and of a method of it

same_name : (a b : Name) → name_eq a b ≡ true → a ≡ b
same_name a b h = (bytes_eq-Decides a b).0 h

module _ (files : Program) (table : Table) where
  as_named : (file : FileTree) (class name descriptor : Name) (code : CodeTree) (body : Body) → name_of file ≡ class
      → with_pool file.pool code ≡ body → (n d : Name) → n ≡ name → d ≡ descriptor
      → named_typed files table file (Some n) (Some d) (Some code) ≡ true
      → HasTyping files (record { class = class; name = name; descriptor = descriptor }) body
  as_named file class name descriptor code body p q n d s t h =
      let own : Member = record { class = name_of file; name = n; descriptor = d } in
      let typed : HasTyping files own (with_pool file.pool code) = record { typing = typing_in (types_in table own); holds = is_typed files own (with_pool file.pool code) (types_in table own) h } in
      let in_named : HasTyping files (record { class = class; name = n; descriptor = d }) (with_pool file.pool code) = subst (λ x. HasTyping files (record { class = x; name = n; descriptor = d }) (with_pool file.pool code)) p typed in
      let of_name : HasTyping files (record { class = class; name = name; descriptor = d }) (with_pool file.pool code) = subst (λ x. HasTyping files (record { class = class; name = x; descriptor = d }) (with_pool file.pool code)) s in_named in
      let described : HasTyping files (record { class = class; name = name; descriptor = descriptor }) (with_pool file.pool code) = subst (λ x. HasTyping files (record { class = class; name = name; descriptor = x }) (with_pool file.pool code)) t of_name in
      subst (λ b. HasTyping files (record { class = class; name = name; descriptor = descriptor }) b) q described

  in_method : (file : FileTree) (m : Member) (body : Body) → name_of file ≡ m.class → (name descriptor : Option Name)
      (code : Option CodeTree) → spells name m.name ≡ true → spells descriptor m.descriptor ≡ true
      → option_map (with_pool file.pool) code ≡ Some body → named_typed files table file name descriptor code ≡ true
      → HasTyping files m body
  in_method file m body p None descriptor code s t e h = absurd (false≢true s)
  in_method file m body p (Some n) None code s t e h = absurd (false≢true t)
  in_method file m body p (Some n) (Some d) None s t e h = absurd (none-some body e)
  in_method file m body p (Some n) (Some d) (Some code) s t e h =
      as_named file m.class m.name m.descriptor code body p (same_Some _ _ e) n d (same_name n m.name s) (same_name d m.descriptor t) h

  in_class_by : (file : FileTree) (m : Member) (body : Body) → name_of file ≡ m.class → class_typed files table file ≡ true
      → (o : Option MethodTree) → declared_in file m.name m.descriptor ≡ o
      → option_map (with_pool file.pool) (option_and_then (λ (x : MethodTree). code_in x.parts) o) ≡ Some body → HasTyping files m body
  in_class_by file m body p h None e q = absurd (none-some body q)
  in_class_by file m body p h (Some x) e q =
      let g = found (is_method file.pool m.name m.descriptor) (method_typed files table file) file.methods x h e in
      let s = and_parts (spells (utf8_at file.pool x.name) m.name) (spells (utf8_at file.pool x.descriptor) m.descriptor) g.0 in
      in_method file m body p (utf8_at file.pool x.name) (utf8_at file.pool x.descriptor) (code_in x.parts) s.0 s.1 q g.1

-- in a program whose built-in classes have their typings of one table, and those of its files of another
module _ (files : Program) (built_in own : Table) where
  in_class : (m : Member) (body : Body) (file : FileTree) → is_named m.class file ≡ true
      → (class_typed files built_in file ≡ true) ⊎ (class_typed files own file ≡ true)
      → body_in m.name m.descriptor file ≡ Some body → HasTyping files m body
  in_class m body file s h q =
      let named = same_name (name_of file) m.class s in
      ⊎_elim
      (λ a. in_class_by files built_in file m body named a (declared_in file m.name m.descriptor) refl q)
      (λ b. in_class_by files own file m body named b (declared_in file m.name m.descriptor) refl q)
      h

  in_program : list_all (class_typed files built_in) built_in_classes ≡ true → list_all (class_typed files own) files ≡ true
      → (m : Member) (body : Body) (o : Option FileTree) → class_of files m.class ≡ o
      → option_and_then (body_in m.name m.descriptor) o ≡ Some body → HasTyping files m body
  in_program h k m body None e q = absurd (none-some body q)
  in_program h k m body (Some file) e q =
      let all = both (class_typed files built_in) (class_typed files own) built_in_classes files h k in
      let g = found (is_named m.class) (λ x. class_typed files built_in x || class_typed files own x) (built_in_classes ++ files) file all e in
      in_class m body file g.0 (or_cases _ _ g.1) q

  pub are_typed : list_all (class_typed files built_in) built_in_classes ≡ true → list_all (class_typed files own) files ≡ true
      → AreTyped files
  are_typed h k m body e = in_program h k m body (class_of files m.class) refl e

  -- the table of the built-in classes is enough for their methods
  pub built_in_are_typed : list_all (class_typed files built_in) built_in_classes ≡ true → (m : Member) (body : Body)
      → is_some (class_of [] m.class) ≡ true → body_of files m ≡ Some body → HasTyping files m body
  built_in_are_typed h m body there e = of_class (class_of files m.class) refl e
    where
      of_class : (o : Option FileTree) → class_of files m.class ≡ o → option_and_then (body_in m.name m.descriptor) o ≡ Some body
          → HasTyping files m body
      of_class None q r = absurd (none-some body r)
      of_class (Some file) q r =
          let g = found_first (is_named m.class) (class_typed files built_in) built_in_classes files file h there q in
          in_class m body file g.0 (inl g.1) r
