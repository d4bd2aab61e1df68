-- Names that differ.
use Rattle.std.proofs.Common.{◌≡◌, ℕ, Bool, true, false, eqb, ◌||◌, cond, List, [], ◌∷◌, ◌++◌, refl, sym, ◌∙◌, arith, Some, ⊎_elim}
use Rattle.std.specs.Prelude.{is_some, find}
use Rattle.std.specs.List.{list_any}
use Rattle.std.proofs.lemmas.List.Folds.{list_any-append}
use Rattle.std.proofs.lemmas.Bool.Decides.{nat_tests}
use Rattle.std.proofs.lemmas.Bool.{or_parts, or_from, or_cases, or_left, or_right}
use Rattle.model.specs.Names.{Name, name_eq}
use Rattle.model.specs.Tree.{FileTree}
use Rattle.model.specs.BuiltIn.{built_in_classes}
use Rattle.model.specs.Classes.{name_of, classes_of, is_named}
use Rattle.model.specs.Linkable.{stands, DuplicateClass, two_of_one_name, has_built_in_name}

eqb_sym : (m n : ℕ) → eqb m n ≡ eqb n m
eqb_sym m n = grind (arith, nat_tests)

pub name_eq_sym : (a b : Name) → name_eq a b ≡ name_eq b a
name_eq_sym [] [] = refl
name_eq_sym [] (y ∷ b) = refl
name_eq_sym (x ∷ a) [] = refl
name_eq_sym (x ∷ a) (y ∷ b) = rw (eqb_sym x y, name_eq_sym a b) refl

pub found_any : {A : Type 0} (p : A → Bool) (xs : List A) → is_some (find p xs) ≡ list_any p xs
found_any p [] = refl
found_any p (x ∷ xs) = by (p x) (found_any p xs)
  where
    by : (b : Bool) → is_some (find p xs) ≡ list_any p xs → is_some (cond b (Some x) (find p xs)) ≡ (b || list_any p xs)
    by true h = refl
    by false h = h

-- one more, whose name none of them has
pub differ_push : (xs : List FileTree) (y : FileTree) → two_of_one_name xs ≡ false → list_any (is_named (name_of y)) xs ≡ false
    → two_of_one_name (xs ++ y ∷ []) ≡ false
differ_push [] y h new = refl
differ_push (x ∷ xs) y h new =
    let here = or_parts (list_any (is_named (name_of x)) xs) (two_of_one_name xs) h in
    let apart = or_parts (is_named (name_of y) x) (list_any (is_named (name_of y)) xs) new in
    let no : is_named (name_of x) y ≡ false = name_eq_sym (name_of y) (name_of x) ∙ apart.0 in
    let rest = differ_push xs y here.1 apart.1 in
    let any : list_any (is_named (name_of x)) (xs ++ y ∷ []) ≡ false = list_any-append (is_named (name_of x)) xs (y ∷ []) ∙ or_from _ _ here.0 (or_from _ _ no refl) in
    or_from _ _ any rest

pub again : (xs : List FileTree) (y : FileTree) (ys : List FileTree) → list_any (is_named (name_of y)) xs ≡ true
    → two_of_one_name (xs ++ y ∷ ys) ≡ true
again [] y ys h = absurd cc
again (x ∷ xs) y ys h =
    ⊎_elim
    (λ same. or_left _ _ (list_any-append (is_named (name_of x)) xs (y ∷ ys) ∙ or_right (list_any (is_named (name_of x)) xs) _ (or_left _ _ (name_eq_sym (name_of y) (name_of x) ∙ same))))
    (λ later. or_right (list_any (is_named (name_of x)) (xs ++ y ∷ ys)) _ (again xs y ys later))
    (or_cases (is_named (name_of y) x) (list_any (is_named (name_of y)) xs) h)

-- ---- the built-in classes and files

pub built_in_differ : two_of_one_name built_in_classes ≡ false
unfolding built_in_classes
built_in_differ = refl

split_two : (xs ys : List FileTree) → two_of_one_name (xs ++ ys) ≡ false
    → (two_of_one_name xs ≡ false) × (two_of_one_name ys ≡ false) × (list_any (λ y. list_any (is_named (name_of y)) xs) ys ≡ false)
split_two [] ys h = (refl, h, none ys)
  where
    none : (ys : List FileTree) → list_any (λ y. false) ys ≡ false
    none [] = refl
    none (y ∷ ys) = none ys
split_two (x ∷ xs) ys h =
    let here = or_parts (list_any (is_named (name_of x)) (xs ++ ys)) (two_of_one_name (xs ++ ys)) h in
    let rest = split_two xs ys here.1 in
    let apart = or_parts (list_any (is_named (name_of x)) xs) (list_any (is_named (name_of x)) ys) (sym (list_any-append (is_named (name_of x)) xs ys) ∙ here.0) in
    (or_from _ _ apart.0 rest.0, rest.1, cross ys apart.1 rest.2)
  where
    cross : (ys : List FileTree) → list_any (is_named (name_of x)) ys ≡ false
        → list_any (λ y. list_any (is_named (name_of y)) xs) ys ≡ false
        → list_any (λ y. list_any (is_named (name_of y)) (x ∷ xs)) ys ≡ false
    cross [] h k = refl
    cross (y ∷ ys) h k =
        let a = or_parts (is_named (name_of x) y) (list_any (is_named (name_of x)) ys) h in
        let b = or_parts (list_any (is_named (name_of y)) xs) (list_any (λ y. list_any (is_named (name_of y)) xs) ys) k in
        or_from _ _ (or_from _ _ (name_eq_sym (name_of x) (name_of y) ∙ a.0) b.0) (cross ys a.1 b.1)

built_in_is : (files : List FileTree) → list_any has_built_in_name files
    ≡ list_any (λ y. list_any (is_named (name_of y)) built_in_classes) files
built_in_is [] = refl
built_in_is (file ∷ files) = rw (found_any (is_named (name_of file)) built_in_classes, built_in_is files) refl

pub no_duplicate : (files : List FileTree) → two_of_one_name (classes_of files) ≡ false → stands files DuplicateClass ≡ false
no_duplicate files h =
    let s = split_two built_in_classes files h in
    or_from _ _ s.1 (built_in_is files ∙ s.2)
