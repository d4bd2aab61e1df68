-- What linking gives of methods, from the conditions of the profile and of a class file's attributes.
use Rattle.std.proofs.Common.{◌≡◌, List, [], ◌∷◌, Bool, true, false, not, ◌&&◌, ◌||◌, ◌==◌, if◌then◌else◌, count_by, Option, Some, None, is_some, refl, sym, ap, ◌∙◌, subst, arith}
use Rattle.std.specs.Option.{option_and_then, option_map, option_map_or}
use Rattle.std.specs.List.{AllByRecursion, list_all}
use Rattle.std.proofs.lemmas.Bool.{false≢true, true≢false, and_parts, and_from, or_parts, eqb-true}
use Rattle.model.specs.Names.{Name, name_eq, Member, constructor_name, initialiser_name}
use Rattle.model.specs.Tree.{MethodPart, CodeOf, SkippedOfMethod, CodeTree, MethodTree, FileTree}
use Rattle.model.specs.Conditions.{is_code_part, has_code_by_flags, file_attributes}
use Rattle.model.specs.AccessFlags.{is_interface_class, is_public_method, is_private_method, is_static_method, is_final_method, is_native_method, is_abstract_method}
use Rattle.model.specs.Descriptors.{FieldType, MethodType}
use Rattle.model.specs.DescriptorScan.{element_at, field_at, field_type, parameters_at, method_type}
use Rattle.model.specs.DescriptorParts.{returns_void}
use Rattle.model.specs.DescribedTypes.{returned_type, results_declared}
use Rattle.model.specs.BuiltIn.{built_in_classes}
use Rattle.model.specs.Classes.{Program, name_of, is_interface, code_in, with_pool, body_in, body_of}
use Rattle.model.specs.Lookup.{method_of}
use Rattle.model.specs.Profile.{is_constructor, is_initialiser, method_name, method_descriptor, method_outside_profile, is_outside_profile}
use Rattle.run_laws.proofs.laws.Lists.{every_weaken}
use Rattle.run_laws.proofs.laws.Found.{none_any, every_all, every_both}
use Rattle.run_laws.proofs.laws.Homes.{Home, home_of, method_has}
use Rattle.run_laws.proofs.laws.Linked.{is_of_the_machine}
use Rattle.run_laws.proofs.laws.Unrefused.{Unrefused}

-- ---- one test gives another

abbrev gives : Bool → Bool → Bool
gives a b = not a || b

given : (a b : Bool) → gives a b ≡ true → a ≡ true → b ≡ true
given true b h e = h
given false b h e = absurd (false≢true e)

given_not : (a b : Bool) → gives a (not b) ≡ true → a ≡ true → b ≡ false
given_not true true h e = sym h
given_not true false h e = refl
given_not false b h e = absurd (false≢true e)

not_both : (a s : Bool) → (a && s) ≡ false → gives s (not a) ≡ true
not_both true true h = absurd (true≢false h)
not_both true false h = refl
not_both false true h = refl
not_both false false h = refl

never : (k v : Bool) → (k && not v) ≡ false → gives k v ≡ true
never true true h = refl
never true false h = absurd (true≢false h)
never false v h = refl

-- a condition on several tests, of one of them
and_first : (a x y : Bool) → (a && (x || y)) ≡ false → (a && x) ≡ false
and_first true x y h = (or_parts x y h).0
and_first false x y h = refl

and_rest : (a x y : Bool) → (a && (x || y)) ≡ false → (a && y) ≡ false
and_rest true x y h = (or_parts x y h).1
and_rest false x y h = refl

-- ---- a method that returns void

no_result : (o : Option FieldType) → not (is_some o) ≡ true → returned_type o ≡ []
no_result None h = refl
no_result (Some t) h = absurd (false≢true h)

no_results : (o : Option MethodType) → option_map_or (λ (m : MethodType). not (is_some m.returns)) o false ≡ true
    → option_map_or (λ (m : MethodType). returned_type m.returns) o [] ≡ []
no_results None h = refl
no_results (Some m) h = no_result m.returns h

pub returns_nothing : (descriptor : Name) → returns_void descriptor ≡ true → results_declared descriptor ≡ []
returns_nothing descriptor h = no_results (method_type descriptor) h

-- ---- what holds of each method, as a test

abbrev pub is_regular : FileTree → MethodTree → Bool
is_regular file m =
    (is_abstract_method m || (is_some (code_in m.parts) || is_of_the_machine (record { class = name_of file; name = method_name file m; descriptor = method_descriptor file m })))
    && (gives (is_static_method m) (not (is_abstract_method m))
    && (gives (is_private_method m) (not (is_abstract_method m))
    && (gives (is_constructor file m) (not (is_abstract_method m))
    && (gives (is_constructor file m) (returns_void (method_descriptor file m))
    && gives (is_interface_class file) (is_initialiser file m || not (is_private_method m))))))

-- the tests one by one
record Regular (file : FileTree) (m : MethodTree) : Type 0 where
  native : (is_abstract_method m || (is_some (code_in m.parts) ||
      is_of_the_machine (record { class = name_of file; name = method_name file m; descriptor = method_descriptor file m }))) ≡ true
  static : gives (is_static_method m) (not (is_abstract_method m)) ≡ true
  private : gives (is_private_method m) (not (is_abstract_method m)) ≡ true
  constructor : gives (is_constructor file m) (not (is_abstract_method m)) ≡ true
  returns : gives (is_constructor file m) (returns_void (method_descriptor file m)) ≡ true
  interface : gives (is_interface_class file) (is_initialiser file m || not (is_private_method m)) ≡ true

tests_of : (file : FileTree) (m : MethodTree) → is_regular file m ≡ true → Regular file m
tests_of file m h =
    let a = and_parts _ _ h in
    let b = and_parts _ _ a.1 in
    let c = and_parts _ _ b.1 in
    let d = and_parts _ _ c.1 in
    let e = and_parts _ _ d.1 in
    record { native = a.0; static = b.0; private = c.0; constructor = d.0; returns = e.0; interface = e.1 }

-- the built-in ones are
built_in_regular : list_all (λ file. list_all (is_regular file) file.methods) built_in_classes ≡ true
unfolding built_in_classes method_type parameters_at field_at field_type element_at
built_in_regular = refl

-- ---- a method with neither ACC_NATIVE nor ACC_ABSTRACT has code (JVMS 4.7.3)

counted_code : (parts : List MethodPart) → count_by is_code_part parts ≡ 1 → is_some (code_in parts) ≡ true
counted_code [] e = absurd (omega (arith, e))
counted_code (CodeOf name code ∷ parts) e = refl
counted_code (SkippedOfMethod a ∷ parts) e = counted_code parts (omega (arith, e))

has_its_code : (native abstract other : Bool) (parts : List MethodPart) → native ≡ false
    → (count_by is_code_part parts == (if not (native || abstract) then 1 else 0)) ≡ true
    → (abstract || (is_some (code_in parts) || other)) ≡ true
has_its_code true abstract other parts n e = absurd (true≢false n)
has_its_code false true other parts n e = refl
has_its_code false false other parts n e =
    ap (λ b. b || other) (counted_code parts (eqb-true (count_by is_code_part parts) 1 e))

public_abstract : (i n u p a : Bool) → (i && (not n && not (u && (not p && a)))) ≡ false → gives i (n || not p) ≡ true
public_abstract false n u p a h = refl
public_abstract true true u p a h = refl
public_abstract true false false p a h = absurd (true≢false h)
public_abstract true false true true a h = absurd (true≢false h)
public_abstract true false true false a h = refl

regular_in : (file : FileTree) (m : MethodTree) → method_outside_profile file m ≡ false → has_code_by_flags m ≡ true
    → is_regular file m ≡ true
regular_in file m h code =
    let a = or_parts _ _ h in
    let b = or_parts _ _ a.1 in
    let c = or_parts _ _ b.1 in
    let d = or_parts _ _ c.1 in
    let e = or_parts _ _ d.1 in
    let f = or_parts _ _ e.1 in
    let g = or_parts _ _ f.1 in
    let abstract = is_abstract_method m in
    let constructs = is_constructor file m in
    let alone = f.0 in
    let static = not_both abstract (is_static_method m) (and_first abstract (is_static_method m) _ alone) in
    let private = not_both abstract (is_private_method m) (and_first abstract (is_private_method m) _ (and_rest abstract (is_final_method m) _ (and_rest abstract (is_static_method m) _ alone))) in
    let made = and_first constructs abstract _ (and_rest constructs (is_final_method m) _ (and_rest constructs (is_static_method m) _ g.0)) in
    and_from _ _ (has_its_code (is_native_method m) abstract _ m.parts b.0 code)
    (and_from _ _ static
    (and_from _ _ private
    (and_from _ _ (never constructs (not abstract) (twice constructs abstract made))
    (and_from _ _ (never constructs (returns_void (method_descriptor file m)) e.0)
    (public_abstract (is_interface_class file) (is_initialiser file m) (is_public_method m) (is_private_method m) abstract g.1)))))
  where
    twice : (k a : Bool) → (k && a) ≡ false → (k && not (not a)) ≡ false
    twice k true h = h
    twice k false h = h

regular_methods : (file : FileTree) → is_outside_profile file ≡ false → file_attributes file ≡ true
    → AllByRecursion (λ m. is_regular file m ≡ true) file.methods
regular_methods file h a =
    let methods = (or_parts _ _ (or_parts _ _ h).1).0 in
    let codes = (and_parts _ _ a).1 in
    every_weaken (λ m. (method_outside_profile file m ≡ false) × (has_code_by_flags m ≡ true)) (λ m. is_regular file m ≡ true) file.methods
    (λ m p. regular_in file m p.0 p.1)
    (every_both _ _ file.methods (none_any (method_outside_profile file) file.methods methods) (every_all has_code_by_flags file.methods codes))

-- ---- the facts

module _ (files : Program) (ok : Unrefused files) where
  tests : (method : Member) (m : MethodTree) (h : Home files method m) → Regular h.file m
  tests method m h =
      tests_of h.file m
      (method_has files (λ file m. is_regular file m ≡ true)
      (every_weaken _ _ built_in_classes (λ file p. every_all (is_regular file) file.methods p) (every_all _ built_in_classes built_in_regular))
      (every_weaken _ _ files (λ file p. regular_methods file p.0 p.1.attributes) (every_both _ _ files ok.profile ok.whole))
      method m h)

  machine_at : (method : Member) (m : MethodTree) (h : Home files method m)
      → is_of_the_machine (record { class = name_of h.file; name = method_name h.file m; descriptor = method_descriptor h.file m }) ≡ true
      → is_of_the_machine method ≡ true
  machine_at method m h e =
      subst (λ c. is_of_the_machine (record { class = c; name = method.name; descriptor = method.descriptor }) ≡ true) h.named
      (subst (λ n. is_of_the_machine (record { class = name_of h.file; name = n; descriptor = method.descriptor }) ≡ true) h.name
      (subst (λ d. is_of_the_machine (record { class = name_of h.file; name = method_name h.file m; descriptor = d }) ≡ true) h.descriptor e))

  no_code : (method : Member) (m : MethodTree) (h : Home files method m) → body_of files method ≡ None → code_in m.parts ≡ None
  no_code method m h e =
      none_of (code_in m.parts)
      (sym (ap (λ o. option_map (with_pool h.file.pool) (option_and_then (λ (x : MethodTree). code_in x.parts) o)) h.is_declared)
      ∙ (sym (ap (λ o. option_and_then (body_in method.name method.descriptor) o) h.is_class) ∙ e))
    where
      none_of : (o : Option CodeTree) → option_map (with_pool h.file.pool) o ≡ None → o ≡ None
      none_of None q = refl
      none_of (Some c) q = absurd cc

  of_machine : (a b c : Bool) → (a || (b || c)) ≡ true → a ≡ false → b ≡ false → c ≡ true
  of_machine true b c h p q = absurd (true≢false p)
  of_machine false true c h p q = absurd (true≢false q)
  of_machine false false c h p q = h

  pub native : (method : Member) (m : MethodTree) → method_of files method ≡ Some m → is_abstract_method m ≡ false
      → body_of files method ≡ None → is_of_the_machine method ≡ true
  native method m e concrete none =
      let h = home_of files method m e in
      let t = (tests method m h).native in
      machine_at method m h (of_machine (is_abstract_method m) (is_some (code_in m.parts)) _ t concrete (ap is_some (no_code method m h none)))

  pub static_is_concrete : (method : Member) (m : MethodTree) → method_of files method ≡ Some m → is_static_method m ≡ true
      → is_abstract_method m ≡ false
  static_is_concrete method m e s =
      let t = (tests method m (home_of files method m e)).static in
      given_not (is_static_method m) (is_abstract_method m) t s

  pub private_is_concrete : (method : Member) (m : MethodTree) → method_of files method ≡ Some m → is_private_method m ≡ true
      → is_abstract_method m ≡ false
  private_is_concrete method m e s =
      let t = (tests method m (home_of files method m e)).private in
      given_not (is_private_method m) (is_abstract_method m) t s

  is_named_so : (method : Member) (m : MethodTree) (h : Home files method m) (name : Name) (b : Bool) → name_eq method.name name ≡ b
      → name_eq (method_name h.file m) name ≡ b
  is_named_so method m h name b e = subst (λ n. name_eq n name ≡ b) (sym h.name) e

  pub constructor_is_concrete : (method : Member) (m : MethodTree) → method_of files method ≡ Some m
      → name_eq method.name constructor_name ≡ true → is_abstract_method m ≡ false
  constructor_is_concrete method m e s =
      let h = home_of files method m e in
      let t = (tests method m h).constructor in
      given_not (is_constructor h.file m) (is_abstract_method m) t (is_named_so method m h constructor_name true s)

  pub constructor_returns_nothing : (method : Member) (m : MethodTree) → method_of files method ≡ Some m
      → name_eq method.name constructor_name ≡ true → results_declared method.descriptor ≡ []
  constructor_returns_nothing method m e s =
      let h = home_of files method m e in
      let t = (tests method m h).returns in
      let void = given (is_constructor h.file m) (returns_void (method_descriptor h.file m)) t (is_named_so method m h constructor_name true s) in
      returns_nothing method.descriptor (subst (λ d. returns_void d ≡ true) h.descriptor void)

  other_of : (n p : Bool) → (n || not p) ≡ true → n ≡ false → p ≡ false
  other_of true p h e = absurd (true≢false e)
  other_of false true h e = absurd (false≢true h)
  other_of false false h e = refl

  pub interface_is_public : (method : Member) (m : MethodTree) → method_of files method ≡ Some m → is_interface files method.class ≡ true
      → name_eq method.name initialiser_name ≡ false → is_private_method m ≡ false
  interface_is_public method m e i n =
      let h = home_of files method m e in
      let t = (tests method m h).interface in
      let interface : is_interface_class h.file ≡ true = sym (ap (λ o. option_map_or is_interface_class o false) h.is_class) ∙ i in
      other_of (is_initialiser h.file m) (is_private_method m) (given (is_interface_class h.file) (is_initialiser h.file m || not (is_private_method m)) t interface) (is_named_so method m h initialiser_name false n)
