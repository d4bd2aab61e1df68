-- Classes by their numbers and by their names, where all names differ.
use Rattle.std.proofs.Common.{◌≡◌, ◌<◌, ◌+◌, ℕ, zero, suc, List, [], ◌∷◌, ◌++◌, length, Bool, true, false, Option, Some, None, cond, refl, sym, ap, subst, ◌∙◌, arith}
use Rattle.std.specs.Prelude.{find, is_some, slice_get}
use Rattle.std.specs.Option.{option_or}
use Rattle.std.specs.List.{list_any}
use Rattle.std.proofs.lemmas.Bool.{true≢false, or_parts}
use Rattle.std.proofs.lemmas.List.Folds.{find-append}
use Rattle.model.specs.Names.{name_eq}
use Rattle.model.specs.Tree.{FileTree}
use Rattle.model.specs.BuiltIn.{built_in_classes}
use Rattle.model.specs.Classes.{Program, name_of, is_named, is_built_in, classes_of, class_of}
use Rattle.model.specs.Linkable.{some_stands, two_of_one_name, has_built_in_name}
use Rattle.run_laws.proofs.laws.Classes.{name_self}
use Rattle.run_laws.proofs.laws.RootedOf.{name_sides}
use Rattle.run_laws.proofs.laws.Unrefused.{names_differ}

-- ---- lists

front : {A : Type 0} (xs ys : List A) (k : ℕ) → k < length xs → slice_get (xs ++ ys) k ≡ slice_get xs k
front [] ys k h = absurd (omega arith)
front (x ∷ xs) ys zero h = refl
front (x ∷ xs) ys (suc k) h = front xs ys k (omega arith)

behind : {A : Type 0} (xs ys : List A) (k : ℕ) → slice_get (xs ++ ys) (length xs + k) ≡ slice_get ys k
behind [] ys k = let e : 0 + k ≡ k = omega arith in ap (slice_get ys) e
behind (x ∷ xs) ys k = let e : suc (length xs) + k ≡ suc (length xs + k) = omega arith in ap (slice_get (x ∷ (xs ++ ys))) e ∙ behind xs ys k

-- what passes nowhere
pub any_at : {A : Type 0} (test : A → Bool) (xs : List A) (k : ℕ) (x : A) → slice_get xs k ≡ Some x → list_any test xs ≡ false
    → test x ≡ false
any_at test [] k x e h = absurd cc
any_at test (y ∷ ys) zero x e h = let same : y ≡ x = cc in subst (λ z. test z ≡ false) same (or_parts (test y) _ h).0
any_at test (y ∷ ys) (suc k) x e h = any_at test ys k x e (or_parts (test y) _ h).1

-- ---- names that differ

-- the class at a place is the first of its name
found_at : (cs : List FileTree) → two_of_one_name cs ≡ false → (k : ℕ) (file : FileTree) → slice_get cs k ≡ Some file
    → find (is_named (name_of file)) cs ≡ Some file
found_at [] differ k file at = absurd cc
found_at (c ∷ cs) differ zero file at =
    let same : c ≡ file = cc in
    subst (λ (f : FileTree). find (is_named (name_of f)) (c ∷ cs) ≡ Some f) same (ap (λ b. cond b (Some c) (find (is_named (name_of c)) cs)) (name_self (name_of c)))
found_at (c ∷ cs) differ (suc k) file at =
    let parts = or_parts (list_any (is_named (name_of c)) cs) _ differ in
    let other : is_named (name_of file) c ≡ false = name_sides (name_of c) (name_of file) ∙ any_at (is_named (name_of c)) cs k file at parts.0 in
    ap (λ b. cond b (Some c) (find (is_named (name_of file)) cs)) other ∙ found_at cs parts.1 k file at

-- no name stands at two places
pub one_place : (cs : List FileTree) → two_of_one_name cs ≡ false → (k j : ℕ) (f g : FileTree) → slice_get cs k ≡ Some f
    → slice_get cs j ≡ Some g → name_of f ≡ name_of g → k ≡ j
one_place [] differ k j f g at there same = absurd cc
one_place (c ∷ cs) differ zero zero f g at there same = refl
one_place (c ∷ cs) differ zero (suc j) f g at there same =
    let is : c ≡ f = cc in
    let none = any_at (is_named (name_of c)) cs j g there (or_parts (list_any (is_named (name_of c)) cs) _ differ).0 in
    absurd (true≢false (sym (name_self (name_of g)) ∙ ap (λ n. name_eq (name_of g) n) (sym same ∙ sym (ap name_of is)) ∙ none))
one_place (c ∷ cs) differ (suc k) zero f g at there same =
    let is : c ≡ g = cc in
    let none = any_at (is_named (name_of c)) cs k f at (or_parts (list_any (is_named (name_of c)) cs) _ differ).0 in
    absurd (true≢false (sym (name_self (name_of f)) ∙ ap (λ n. name_eq (name_of f) n) (same ∙ sym (ap name_of is)) ∙ none))
one_place (c ∷ cs) differ (suc k) (suc j) f g at there same = ap suc (one_place cs (or_parts (list_any (is_named (name_of c)) cs) _ differ).1 k j f g at there same)

built_in_count : length built_in_classes ≡ 37
unfolding built_in_classes
built_in_count = refl

built_in_differ : two_of_one_name built_in_classes ≡ false
unfolding built_in_classes
built_in_differ = refl

none_some : {A : Type 0} (o : Option A) → is_some o ≡ false → o ≡ None
none_some None h = refl
none_some (Some x) h = absurd (true≢false h)

-- ---- classes

module _ (trees : Program) (linkable : some_stands trees ≡ false) where
  pub files_differ : two_of_one_name trees ≡ false
  files_differ = (or_parts (two_of_one_name trees) _ (names_differ trees linkable)).0

  pub none_built_in : list_any has_built_in_name trees ≡ false
  none_built_in = (or_parts (two_of_one_name trees) _ (names_differ trees linkable)).1

  -- below 37 stands a built-in class
  module _ (number : ℕ) (below : number < 37) (file : FileTree) (at : slice_get (classes_of trees) number ≡ Some file) where
    found_built_in : find (is_named (name_of file)) built_in_classes ≡ Some file
    found_built_in =
        let within : number < length built_in_classes = subst (λ n. number < n) (sym built_in_count) below in
        found_at built_in_classes built_in_differ number file (sym (front built_in_classes trees number within) ∙ at)

    pub is_so : is_built_in (name_of file) ≡ true
    is_so = ap (λ (o : Option FileTree). is_some o) found_built_in

    pub class_below : class_of trees (name_of file) ≡ Some file
    class_below = find-append (is_named (name_of file)) built_in_classes trees ∙ ap (λ o. option_or o (find (is_named (name_of file)) trees)) found_built_in

  -- and behind those the classes of the files
  module _ (place : ℕ) (file : FileTree) (at : slice_get (classes_of trees) (37 + place) ≡ Some file) where
    pub file_at : slice_get trees place ≡ Some file
    file_at = sym (behind built_in_classes trees place) ∙ ap (λ n. slice_get (classes_of trees) (n + place)) built_in_count ∙ at

    pub is_not : is_built_in (name_of file) ≡ false
    is_not = any_at has_built_in_name trees place file file_at none_built_in

    pub class_behind : class_of trees (name_of file) ≡ Some file
    class_behind =
        find-append (is_named (name_of file)) built_in_classes trees
        ∙ ap (λ o. option_or o (find (is_named (name_of file)) trees)) (none_some (find (is_named (name_of file)) built_in_classes) is_not)
        ∙ found_at trees files_differ place file file_at
