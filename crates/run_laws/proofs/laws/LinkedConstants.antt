-- What linking gives of constants: those of fields are of their kinds, and each string constant has an object.
use Rattle.std.proofs.Common.{◌≡◌, ℕ, zero, suc, List, [], ◌∷◌, ◌++◌, get_or, cond, filter, filter_map, flat_map, Bool, true, false, Option, Some, None, refl, sym, ap, ◌∙◌, subst, ⊎_elim}
use Rattle.std.specs.List.{AllByRecursion, list_any, list_all, cons_option}
use Rattle.std.proofs.lemmas.Bool.{false≢true, and_parts, or_cases, or_left, or_right, cases_Bool, not_from_false, false_from_ne_true}
use Rattle.model.specs.Names.{Name, name_eq}
use Rattle.model.specs.Tree.{Entry, String, Unusable, FieldPart, ConstantOf, SkippedOfField, FieldTree, FileTree}
use Rattle.model.specs.Spelling.{entry_at}
use Rattle.model.specs.Spells.{IsWhole}
use Rattle.model.specs.Pool.{utf8_at, string_of}
use Rattle.model.specs.Conditions.{text_at, is_constant_of, constant_fits, field_constants}
use Rattle.model.specs.BuiltIn.{built_in_classes}
use Rattle.model.specs.Classes.{Program, class_of}
use Rattle.model.specs.ClassInitialisation.{constant_in}
use Rattle.model.specs.StringConstants.{is_other_text, distinct, texts_in, main_text, division_text, machine_texts, string_texts}
use Rattle.run_laws.proofs.laws.Lists.{every_weaken}
use Rattle.run_laws.proofs.laws.Found.{every_all}
use Rattle.run_laws.proofs.laws.Classes.{names_same, name_self}
use Rattle.run_laws.proofs.laws.RootedOf.{name_turned}
use Rattle.run_laws.proofs.laws.Homes.{class_has}
use Rattle.run_laws.proofs.laws.Unrefused.{Unrefused}

-- ---- constants of fields

abbrev pub FitsIn : List Entry → FieldTree → Type 0
FitsIn pool field = (index : ℕ) → constant_in field.parts ≡ Some index → is_constant_of (text_at pool field.descriptor) (entry_at pool index) ≡ true

constant_right : (pool : List Entry) (descriptor : List ℕ) (parts : List FieldPart) → list_all (constant_fits pool descriptor) parts ≡ true
    → (index : ℕ) → constant_in parts ≡ Some index → is_constant_of descriptor (entry_at pool index) ≡ true
constant_right pool descriptor [] h index e = absurd cc
constant_right pool descriptor (ConstantOf name at ∷ parts) h index e =
    let q : at ≡ index = cc in subst (λ k. is_constant_of descriptor (entry_at pool k) ≡ true) q (and_parts _ _ h).0
constant_right pool descriptor (SkippedOfField a ∷ parts) h index e = constant_right pool descriptor parts h index e

fields_right : (file : FileTree) → list_all (field_constants file.pool) file.fields ≡ true → AllByRecursion (FitsIn file.pool) file.fields
fields_right file h =
    every_weaken (λ f. field_constants file.pool f ≡ true) (FitsIn file.pool) file.fields
    (λ f q index e. constant_right file.pool (text_at file.pool f.descriptor) f.parts (and_parts _ _ q).1 index e)
    (every_all (field_constants file.pool) file.fields h)

built_in_constants : list_all (λ file. list_all (field_constants file.pool) file.fields) built_in_classes ≡ true
unfolding built_in_classes
built_in_constants = refl

-- ---- texts of string constants

any_kept : (c : Bool) (b x : Name) (ys : List Name) → list_any (name_eq b) ys ≡ true → list_any (name_eq b) (cond c (x ∷ ys) ys) ≡ true
any_kept true b x ys h = or_right (name_eq b x) _ h
any_kept false b x ys h = h

any_filtered : (p : Name → Bool) (b : Name) (xs : List Name) → p b ≡ true → list_any (name_eq b) xs ≡ true
    → list_any (name_eq b) (filter p xs) ≡ true
any_filtered p b [] t h = h
any_filtered p b (x ∷ xs) t h =
    ⊎_elim
    (λ same.
    let kept : p x ≡ true = subst (λ y. p y ≡ true) (names_same b x same) t in
    subst (λ c. list_any (name_eq b) (cond c (x ∷ filter p xs) (filter p xs)) ≡ true) (sym kept) (or_left (name_eq b x) _ same))
    (λ more. any_kept (p x) b x (filter p xs) (any_filtered p b xs t more))
    (or_cases (name_eq b x) _ h)

texts_once : (b : Name) (xs : List Name) → list_any (name_eq b) xs ≡ true → list_any (name_eq b) (distinct xs) ≡ true
texts_once b [] h = h
texts_once b (t ∷ ts) h =
    ⊎_elim (λ same. or_left (name_eq b t) _ same)
    (λ other.
    let aside : name_eq t b ≡ false = false_from_ne_true (name_eq t b) (λ e. false≢true (sym other ∙ name_turned t b e)) in
    or_right (name_eq b t) _
    (any_filtered (is_other_text t) b (distinct ts) (not_from_false (name_eq t b) aside)
    (texts_once b ts (⊎_elim (λ e. absurd (false≢true (sym other ∙ e))) (λ e. e) (or_cases (name_eq b t) _ h)))))
    (cases_Bool (name_eq b t))

any_front : (b : Name) (xs ys : List Name) → list_any (name_eq b) xs ≡ true → list_any (name_eq b) (xs ++ ys) ≡ true
any_front b [] ys h = absurd (false≢true h)
any_front b (x ∷ xs) ys h = ⊎_elim (λ e. or_left (name_eq b x) _ e) (λ e. or_right (name_eq b x) _ (any_front b xs ys e)) (or_cases (name_eq b x) _ h)

any_back : (b : Name) (xs ys : List Name) → list_any (name_eq b) ys ≡ true → list_any (name_eq b) (xs ++ ys) ≡ true
any_back b [] ys h = h
any_back b (x ∷ xs) ys h = or_right (name_eq b x) _ (any_back b xs ys h)

-- the texts of each file are among those of all
texts_of_all : (Q : Name → Type 0) (fs : List FileTree) → ((b : Name) → list_any (name_eq b) (flat_map texts_in fs) ≡ true → Q b)
    → AllByRecursion (λ file. (b : Name) → list_any (name_eq b) (texts_in file) ≡ true → Q b) fs
texts_of_all Q [] h = tt
texts_of_all Q (f ∷ fs) h =
    ((λ b e. h b (any_front b (texts_in f) (flat_map texts_in fs) e)), texts_of_all Q fs (λ b e. h b (any_back b (texts_in f) (flat_map texts_in fs) e)))

-- a String entry gives its text
after_option : (b : Name) (o : Option Name) (xs : List Name) → list_any (name_eq b) xs ≡ true
    → list_any (name_eq b) (cons_option o xs) ≡ true
after_option b None xs h = h
after_option b (Some x) xs h = or_right (name_eq b x) _ h

string_listed : (pool es : List Entry) (k text : ℕ) (b : Name) → get_or es k Unusable ≡ String text → utf8_at pool text ≡ Some b
    → list_any (name_eq b) (filter_map (string_of pool) es) ≡ true
string_listed pool [] k text b e u = absurd cc
string_listed pool (x ∷ es) zero text b e u =
    subst (λ o. list_any (name_eq b) (cons_option o (filter_map (string_of pool) es)) ≡ true) (sym (ap (string_of pool) e ∙ u)) (or_left (name_eq b b) _ (name_self b))
string_listed pool (x ∷ es) (suc k) text b e u = after_option b (string_of pool x) (filter_map (string_of pool) es) (string_listed pool es k text b e u)

string_in : (pool : List Entry) (index text : ℕ) (b : Name) → entry_at pool index ≡ String text → utf8_at pool text ≡ Some b
    → list_any (name_eq b) (filter_map (string_of pool) pool) ≡ true
string_in pool zero text b e u = absurd cc
string_in pool (suc k) text b e u = string_listed pool pool k text b e u

-- ---- the texts of a program

module _ (files : Program) where
  text_of_file : (b : Name) → list_any (name_eq b) (flat_map texts_in files) ≡ true → list_any (name_eq b) (string_texts files) ≡ true
  text_of_file b h = texts_once b _ (any_front b (flat_map texts_in files) _ h)

  text_of_built_in : (b : Name) → list_any (name_eq b) (flat_map texts_in built_in_classes) ≡ true
      → list_any (name_eq b) (string_texts files) ≡ true
  text_of_built_in b h = texts_once b _ (any_back b (flat_map texts_in files) _ (any_front b (flat_map texts_in built_in_classes) machine_texts h))

  text_of_machine : (b : Name) → list_any (name_eq b) machine_texts ≡ true → list_any (name_eq b) (string_texts files) ≡ true
  text_of_machine b h = texts_once b _ (any_back b (flat_map texts_in files) _ (any_back b (flat_map texts_in built_in_classes) machine_texts h))

  pub main_is_text : list_any (name_eq main_text) (string_texts files) ≡ true
  main_is_text = text_of_machine main_text refl

  pub division_is_text : list_any (name_eq division_text) (string_texts files) ≡ true
  division_is_text = text_of_machine division_text refl

  -- a built-in class has the constant of the empty text
  empty_built_in : list_any (name_eq []) (flat_map texts_in built_in_classes) ≡ true
  unfolding built_in_classes
  empty_built_in = refl

  pub empty_is_text : list_any (name_eq []) (string_texts files) ≡ true
  empty_is_text = text_of_built_in [] empty_built_in

-- ---- the facts

module _ (files : Program) (ok : Unrefused files) where
  pub constants_fit : (class : Name) (file : FileTree) → class_of files class ≡ Some file → AllByRecursion (FitsIn file.pool) file.fields
  constants_fit class file e =
      class_has files (λ f. AllByRecursion (FitsIn f.pool) f.fields)
      (every_weaken (λ f. list_all (field_constants f.pool) f.fields ≡ true) _ built_in_classes (λ f h. fields_right f h) (every_all _ built_in_classes built_in_constants))
      (every_weaken IsWhole _ files (λ f h. fields_right f (and_parts _ _ h.attributes).0) ok.whole)
      class file e

  abbrev pub AreKnown : FileTree → Type 0
  AreKnown file = (index text : ℕ) (bytes : List ℕ) → entry_at file.pool index ≡ String text → utf8_at file.pool text ≡ Some bytes → list_any (name_eq bytes) (string_texts files) ≡ true

  -- of some of the classes, whose texts are among those of the program
  known_of : (fs : List FileTree) → ((b : Name) → list_any (name_eq b) (flat_map texts_in fs) ≡ true → list_any (name_eq b) (string_texts files) ≡ true)
      → AllByRecursion AreKnown fs
  known_of fs among =
      every_weaken (λ f. (b : Name) → list_any (name_eq b) (texts_in f) ≡ true → list_any (name_eq b) (string_texts files) ≡ true) AreKnown fs
      (λ f h index text bytes q u. h bytes (string_in f.pool index text bytes q u))
      (texts_of_all (λ b. list_any (name_eq b) (string_texts files) ≡ true) fs among)

  pub string_known : (class : Name) (file : FileTree) → class_of files class ≡ Some file → AreKnown file
  string_known class file e =
      class_has files AreKnown (known_of built_in_classes (text_of_built_in files)) (known_of files (text_of_file files)) class file e
