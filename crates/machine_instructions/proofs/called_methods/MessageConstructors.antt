-- The constructors without code that keep a message: those of Throwable and of the classes below it.
use Rattle.std.proofs.Common.{◌≡◌, List, [], ◌∷◌, Bool, true, false, not, ◌&&◌, ◌||◌, ◌==◌, if◌then◌else◌, count_by, Option, Some, None, is_some, refl, sym, ap, ◌∙◌, arith, eqb-true}
use Rattle.std.specs.Option.{option_and_then, option_map, option_map_or}
use Rattle.std.specs.List.{AllByRecursion, list_all}
use Rattle.std.proofs.lemmas.Bool.{false≢true, true≢false, and_parts, or_parts, not-true}
use Rattle.model.specs.Names.{name_eq, Member, constructor_name, java_lang_throwable}
use Rattle.model.specs.Tree.{MethodPart, CodeOf, SkippedOfMethod, CodeTree, MethodTree, FileTree}
use Rattle.model.specs.Conditions.{is_code_part, has_code_by_flags, file_attributes}
use Rattle.model.specs.AccessFlags.{is_native_method, is_abstract_method, is_private_method, is_static_method}
use Rattle.model.specs.BuiltIn.{built_in_classes}
use Rattle.model.specs.BuiltInMethods.{BuiltInMethod, ConstructWithMessage, ConstructWithCause, built_in_method}
use Rattle.model.specs.Calls.{is_one}
use Rattle.model.specs.Classes.{Program, name_of, is_subclass, code_in, with_pool, body_in, body_of}
use Rattle.model.specs.Lookup.{method_of}
use Rattle.model.specs.Profile.{is_constructor, method_name, method_descriptor, method_outside_profile, is_outside_profile}
use Rattle.run_laws.proofs.laws.Lists.{every_weaken}
use Rattle.run_laws.proofs.laws.Found.{none_any, every_all, every_both}
use Rattle.run_laws.proofs.laws.Homes.{Home, home_of, method_has}
use Rattle.run_laws.proofs.laws.Unrefused.{Unrefused}

abbrev pub keeps_message : BuiltInMethod → Bool
keeps_message ConstructWithMessage = true
keeps_message ConstructWithCause = true
keeps_message _ = false

-- ---- what is so of the methods of a file

abbrev member_in : FileTree → MethodTree → Member
member_in file m = record { class = name_of file; name = method_name file m; descriptor = method_descriptor file m }

-- a constructor of a class below Throwable, which all may call
abbrev tells : Program → FileTree → MethodTree → Bool
tells files file m =
    is_constructor file m && (not (is_private_method m) && (not (is_static_method m) && is_subclass files (name_of file) java_lang_throwable))

-- where it is neither abstract nor has code, and keeps a message
abbrev is_sound : Program → FileTree → MethodTree → Bool
is_sound files file m =
    is_abstract_method m || (is_some (code_in m.parts) || (not (keeps_message (built_in_method (member_in file m))) || tells files file m))

built_in_sound : (files : Program) → list_all (λ file. list_all (is_sound files file) file.methods) built_in_classes ≡ true
unfolding built_in_classes
built_in_sound files = refl

counted_code : (parts : List MethodPart) → count_by is_code_part parts ≡ 1 → is_some (code_in parts) ≡ true
counted_code [] e = absurd (omega (arith, e))
counted_code (CodeOf name code ∷ parts) e = refl
counted_code (SkippedOfMethod a ∷ parts) e = counted_code parts (omega (arith, e))

has_its_code : (native abstract other : Bool) (parts : List MethodPart) → native ≡ false
    → (count_by is_code_part parts == (if not (native || abstract) then 1 else 0)) ≡ true
    → (abstract || (is_some (code_in parts) || other)) ≡ true
has_its_code true abstract other parts n e = absurd (true≢false n)
has_its_code false true other parts n e = refl
has_its_code false false other parts n e = ap (λ b. b || other) (counted_code parts (eqb-true (count_by is_code_part parts) 1 e))

sound_in : (files : Program) (file : FileTree) (m : MethodTree) → method_outside_profile file m ≡ false → has_code_by_flags m ≡ true
    → is_sound files file m ≡ true
sound_in files file m h code =
    let b = or_parts _ _ (or_parts _ _ h).1 in
    has_its_code (is_native_method m) (is_abstract_method m) _ m.parts b.0 code

sound_methods : (files : Program) (file : FileTree) → is_outside_profile file ≡ false → file_attributes file ≡ true
    → AllByRecursion (λ m. is_sound files file m ≡ true) file.methods
sound_methods files file h a =
    let methods = (or_parts _ _ (or_parts _ _ h).1).0 in
    let codes = (and_parts _ _ a).1 in
    every_weaken (λ m. (method_outside_profile file m ≡ false) × (has_code_by_flags m ≡ true)) (λ m. is_sound files file m ≡ true) file.methods
    (λ m p. sound_in files file m p.0 p.1)
    (every_both _ _ file.methods (none_any (method_outside_profile file) file.methods methods) (every_all has_code_by_flags file.methods codes))

-- ---- of a member

pub record Keeps (files : Program) (method : Member) : Type 0 where
  pub constructs : name_eq method.name constructor_name ≡ true
  pub public : is_one is_private_method files method ≡ false
  pub instance : is_one is_static_method files method ≡ false
  pub below : is_subclass files method.class java_lang_throwable ≡ true

last : (a b c d : Bool) → (a || (b || (not c || d))) ≡ true → a ≡ false → b ≡ false → c ≡ true → d ≡ true
last true b c d h p q r = absurd (true≢false p)
last false true c d h p q r = absurd (true≢false q)
last false false false d h p q r = absurd (false≢true r)
last false false true d h p q r = h

module _ (files : Program) (ok : Unrefused files) (method : Member) (m : MethodTree) (is_method : method_of files method ≡ Some m) where
  h : Home files method m
  h = home_of files method m is_method

  sound : is_sound files h.file m ≡ true
  sound =
      method_has files (λ file m. is_sound files file m ≡ true)
      (every_weaken _ _ built_in_classes (λ file p. every_all (is_sound files file) file.methods p) (every_all _ built_in_classes (built_in_sound files)))
      (every_weaken _ _ files (λ file p. sound_methods files file p.0 p.1.attributes) (every_both _ _ files ok.profile ok.whole))
      method m h

  none_of : (o : Option CodeTree) → option_map (with_pool h.file.pool) o ≡ None → o ≡ None
  none_of None q = refl
  none_of (Some c) q = absurd cc

  no_code : body_of files method ≡ None → code_in m.parts ≡ None
  no_code e =
      none_of (code_in m.parts)
      (sym (ap (λ o. option_map (with_pool h.file.pool) (option_and_then (λ (x : MethodTree). code_in x.parts) o)) h.is_declared)
      ∙ (sym (ap (λ o. option_and_then (body_in method.name method.descriptor) o) h.is_class) ∙ e))

  is_member : member_in h.file m ≡ method
  is_member = λ i. record { class = h.named i; name = h.name i; descriptor = h.descriptor i }

  pub keeping : is_one is_abstract_method files method ≡ false → body_of files method ≡ None → keeps_message (built_in_method method) ≡ true
      → Keeps files method
  keeping concrete none keeps =
      let abstract : is_abstract_method m ≡ false = sym (ap (λ o. option_map_or is_abstract_method o false) is_method) ∙ concrete in
      let told =
      last (is_abstract_method m) (is_some (code_in m.parts)) (keeps_message (built_in_method (member_in h.file m))) (tells files h.file m) sound abstract
      (ap is_some (no_code none)) (ap (λ x. keeps_message (built_in_method x)) is_member ∙ keeps)
      in
      let a = and_parts _ _ told in
      let b = and_parts _ _ a.1 in
      let c = and_parts _ _ b.1 in
      record {
        constructs = ap (λ n. name_eq n constructor_name) (sym h.name) ∙ a.0;
        public = ap (λ o. option_map_or is_private_method o false) is_method ∙ not-true (is_private_method m) b.0;
        instance = ap (λ o. option_map_or is_static_method o false) is_method ∙ not-true (is_static_method m) c.0;
        below = ap (λ n. is_subclass files n java_lang_throwable) (sym h.named) ∙ c.1;
      }
