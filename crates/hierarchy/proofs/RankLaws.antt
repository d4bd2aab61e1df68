-- What follows from ranks: no class is above itself, and what is above a class is above it by few steps.
use Rattle.std.proofs.Common.{◌≡◌, ◌∙◌, ℕ, zero, suc, ◌<◌, ◌≤◌, Bool, true, false, ◌||◌, List, [], ◌∷◌, ◌++◌, length, refl, sym, ap, subst, arith, Option, Some, None, leb-false, ⊎_elim}
use borrow.Author.Tests.{eqb-false}
use Rattle.std.specs.Prelude.{slice_get, nat_le, ◌==◌}
use Rattle.std.specs.Option.{option_and_then, option_map_or, option_to_list}
use Rattle.std.specs.List.{flat_map, list_any}
use Rattle.std.proofs.lemmas.List.Folds.{list_any-append}
use Rattle.std.proofs.lemmas.Bool.{or_parts, or_cases}
use Rattle.model.specs.Names.{Name, name_eq}
use Rattle.model.specs.Tree.{FileTree}
use Rattle.model.specs.Classes.{Program, name_of, classes_of, class_of, super_name_of, superclass_of, superinterfaces_of, interface_names, is_named}
use Rattle.model.specs.Hierarchy.{is_above, in_cycle}
use Rattle.hierarchy.specs.Places.{place_of}
use Rattle.hierarchy.specs.declared.rows.Above as declared_above
use Rattle.hierarchy.specs.declared.rows.Above.TheVariants as above
use Rattle.hierarchy.specs.Above.{each_once, with_names, directly_above, names_above, row_of, rows_of, next_row, next_rows}
use Rattle.hierarchy.specs.Ranks.{rank_of, is_late, is_misranked, HasRanks}
use Rattle.hierarchy.proofs.Finding.{position_within}
use Rattle.hierarchy.proofs.SetLaws.{same_name, named_so, no_class, no_item, name_at_place, class_at_place}
use Rattle.hierarchy.proofs.Indices.{not_found, none_both}
use Rattle.hierarchy.proofs.RowLaws.{next_of_none, get_map, map_same, once_inside}
use Rattle.hierarchy.proofs.Walks.{some_class}

-- ---- ranks of names

-- A number for each name: 0 for those of no class alone, and for a class more than for what is directly above it.
pub record Ranked (files : Program) (rank : Name → ℕ) : Type 0 where
  pub none : (class : Name) → rank class ≤ 0 → class_of files class ≡ None
  pub few : (class : Name) → rank class < length (classes_of files)
  pub interfaces : (class : Name) → list_any (λ s. nat_le (rank class) (rank s)) (superinterfaces_of files class) ≡ false
  pub superclass : (class : Name) → list_any (λ s. nat_le (rank class) (rank s)) (option_to_list (superclass_of files class)) ≡ false

no_place : (files : Program) (name : Name) → class_of files name ≡ None → place_of files name ≡ None
no_place files name e = by (place_of files name) refl
  where
    by : (o : Option ℕ) → place_of files name ≡ o → place_of files name ≡ None
    by None p = p
    by (Some k) p = absurd (at (slice_get (classes_of files) k) refl)
      where
        at : (c : Option FileTree) → slice_get (classes_of files) k ≡ c → ⊥
        at None g = no_item (classes_of files) k (position_within (is_named name) (classes_of files) k p) g
        at (Some file) g = let found = class_at_place files name k p ∙ g in absurd cc

-- what is checked of a class of a name
checked : (files : Program) (ranks : List ℕ) (name : Name) (file : FileTree)
    → list_any (is_misranked files ranks) (classes_of files) ≡ false → class_of files name ≡ Some file
    → ((rank_of files ranks name == 0) ≡ false) × (nat_le (length (classes_of files)) (rank_of files ranks name) ≡ false)
    × (list_any (is_late files ranks (rank_of files ranks name)) (option_to_list (super_name_of file)) ≡ false)
    × (list_any (is_late files ranks (rank_of files ranks name)) (interface_names file) ≡ false)
checked files ranks name file h is =
    let all : is_misranked files ranks file ≡ false = not_found (is_named name) (is_misranked files ranks) (classes_of files) file is h in
    let named : name_of file ≡ name = named_so files name file is in
    let r = rank_of files ranks name in
    let here : (r == 0 || (nat_le (length (classes_of files)) r || (list_any (is_late files ranks r) (option_to_list (super_name_of file)) || list_any (is_late files ranks r) (interface_names file)))) ≡ false =
    subst (λ (n : Name). (rank_of files ranks n == 0 || (nat_le (length (classes_of files)) (rank_of files ranks n) || (list_any (is_late files ranks (rank_of files ranks n)) (option_to_list (super_name_of file)) || list_any (is_late files ranks (rank_of files ranks n)) (interface_names file)))) ≡ false) named all in
    let one = or_parts _ _ here in
    let two = or_parts _ _ one.1 in
    let three = or_parts _ _ two.1 in
    (one.0, two.0, three.0, three.1)

-- ranks that were checked
pub ranked_by : (files : Program) (h : HasRanks files) → Ranked files (rank_of files h.ranks)
ranked_by files h = record {
  none = λ class low. none_by class low (class_of files class) refl;
  few = λ class. few_by class (class_of files class) refl;
  interfaces = λ class. interfaces_by class (class_of files class) refl;
  superclass = λ class. superclass_by class (class_of files class) refl;
}
  where
    rank : Name → ℕ
    rank = rank_of files h.ranks

    none_by : (class : Name) → rank class ≤ 0 → (o : Option FileTree) → class_of files class ≡ o → class_of files class ≡ None
    none_by class low None e = e
    none_by class low (Some file) e = absurd (eqb-false (rank class) 0 (checked files h.ranks class file h.ranked e).0 (omega arith))

    few_by : (class : Name) → (o : Option FileTree) → class_of files class ≡ o → rank class < length (classes_of files)
    few_by class None e = let zero_rank : rank class ≡ 0 = ap (λ (o : Option ℕ). option_map_or (λ rank. rank) (option_and_then (slice_get h.ranks) o) 0) (no_place files class e) in let some : 0 < length (classes_of files) = some_class files in omega arith
    few_by class (Some file) e = leb-false _ _ (checked files h.ranks class file h.ranked e).1

    interfaces_by : (class : Name) → (o : Option FileTree) → class_of files class ≡ o
        → list_any (is_late files h.ranks (rank class)) (superinterfaces_of files class) ≡ false
    interfaces_by class None e = ap (λ (o : Option FileTree). list_any (is_late files h.ranks (rank class)) (option_map_or interface_names o [])) e
    interfaces_by class (Some file) e = ap (λ (o : Option FileTree). list_any (is_late files h.ranks (rank class)) (option_map_or interface_names o [])) e ∙ (checked files h.ranks class file h.ranked e).3

    superclass_by : (class : Name) → (o : Option FileTree) → class_of files class ≡ o
        → list_any (is_late files h.ranks (rank class)) (option_to_list (superclass_of files class)) ≡ false
    superclass_by class None e = ap (λ (o : Option FileTree). list_any (is_late files h.ranks (rank class)) (option_to_list (option_and_then super_name_of o))) e
    superclass_by class (Some file) e = ap (λ (o : Option FileTree). list_any (is_late files h.ranks (rank class)) (option_to_list (option_and_then super_name_of o))) e ∙ (checked files h.ranks class file h.ranked e).2

-- ---- cycles

-- what is above a class has a smaller rank
lower : (files : Program) (rank : Name → ℕ) → Ranked files rank → (n : ℕ) (c d : Name) → is_above files n c d ≡ true → rank d < rank c
lower files rank r zero c d e = absurd cc
lower files rank r (suc n) c d e =
    none_both (λ s. name_eq s d || is_above files n s d) (λ s. nat_le (rank c) (rank s)) (option_to_list (superclass_of files c) ++ superinterfaces_of files c)
    (list_any-append (λ s. nat_le (rank c) (rank s)) (option_to_list (superclass_of files c)) (superinterfaces_of files c) ∙ ap (λ b. b || list_any (λ s. nat_le (rank c) (rank s)) (superinterfaces_of files c)) (r.superclass c) ∙ r.interfaces c)
    (λ s late found. step s (leb-false (rank c) (rank s) late) found (lower files rank r n s d)) e
  where
    step : (s : Name) → rank s < rank c → (name_eq s d || is_above files n s d) ≡ true → (is_above files n s d ≡ true → rank d < rank s)
        → rank d < rank c
    step s low found above =
        ⊎_elim
        (λ same. subst (λ x. rank x < rank c) (same_name s d same) low)
        (λ more. let less : rank d < rank s = above more in omega arith)
        (or_cases (name_eq s d) (is_above files n s d) found)

never_below : (n : ℕ) → n < n → ⊥
never_below n h = omega arith

not_in_cycle : (files : Program) → HasRanks files → (file : FileTree) → in_cycle files file ≡ false
not_in_cycle files h file = by (in_cycle files file) refl
  where
    by : (b : Bool) → in_cycle files file ≡ b → in_cycle files file ≡ false
    by false e = e
    by true e = absurd (never_below _ (lower files (rank_of files h.ranks) (ranked_by files h) (length (classes_of files)) (name_of file) (name_of file) e))

-- where classes have ranks none is above itself
pub acyclic : (files some : Program) → HasRanks files → list_any (in_cycle files) some ≡ false
acyclic files [] h = refl
acyclic files (file ∷ some) h = ap (λ b. b || list_any (in_cycle files) some) (not_in_cycle files h file) ∙ acyclic files some h

-- ---- what is above a class

-- lists that are the same at each name that passes no test
flat_where : (q : Name → Bool) (f g : Name → List Name) (xs : List Name) → list_any q xs ≡ false → ((x : Name) → q x ≡ false → f x ≡ g x)
    → flat_map (λ x. x ∷ f x) xs ≡ flat_map (λ x. x ∷ g x) xs
flat_where q f g [] h same = refl
flat_where q f g (x ∷ xs) h same =
    let here = or_parts (q x) (list_any q xs) h in
    ap (λ (l : List Name). x ∷ (l ++ flat_map (λ x. x ∷ f x) xs)) (same x here.0) ∙ ap (λ (l : List Name). x ∷ (g x ++ l)) (flat_where q f g xs here.1 same)

-- the same, cut to what stands in them once
once_where : (q : Name → Bool) (f g : Name → List Name) (acc xs : List Name) → list_any q xs ≡ false
    → ((x : Name) → q x ≡ false → f x ≡ each_once (g x))
    → with_names acc (flat_map (λ x. x ∷ f x) xs) ≡ with_names acc (flat_map (λ x. x ∷ g x) xs)
once_where q f g acc xs h same =
    ap (with_names acc) (flat_where q f (λ x. each_once (g x)) xs h same) ∙ once_inside (λ x. each_once (g x)) g (λ x. refl) acc xs

-- what is directly above a class has a smaller rank
lower_above : (files : Program) (rank : Name → ℕ) → Ranked files rank → (kind : declared_above.Above) (class : Name)
    → list_any (λ s. nat_le (rank class) (rank s)) (directly_above files kind class) ≡ false
lower_above files rank r above.Interfaces class = r.interfaces class
lower_above files rank r above.Supertypes class =
    list_any-append (λ s. nat_le (rank class) (rank s)) (superinterfaces_of files class) (option_to_list (superclass_of files class))
    ∙ ap (λ b. b || list_any (λ s. nat_le (rank class) (rank s)) (option_to_list (superclass_of files class))) (r.interfaces class)
    ∙ r.superclass class

-- beyond the rank of a class a further step changes nothing
pub steady : (files : Program) (rank : Name → ℕ) → Ranked files rank → (kind : declared_above.Above) (n m : ℕ) (class : Name)
    → rank class ≤ n → rank class ≤ m
    → names_above (directly_above files kind) n class ≡ names_above (directly_above files kind) m class
steady files rank r kind zero zero class p q = refl
steady files rank r kind zero (suc m) class p q = ap (flat_map (λ i. i ∷ names_above (directly_above files kind) m i)) (sym (next_of_none files kind class (r.none class p)))
steady files rank r kind (suc n) zero class p q = ap (flat_map (λ i. i ∷ names_above (directly_above files kind) n i)) (next_of_none files kind class (r.none class q))
steady files rank r kind (suc n) (suc m) class p q =
    flat_where (λ s. nat_le (rank class) (rank s)) (names_above (directly_above files kind) n) (names_above (directly_above files kind) m) (directly_above files kind class) (lower_above files rank r kind class)
    (λ s low. let less : rank s < rank class = leb-false (rank class) (rank s) low in steady files rank r kind n m s (omega arith) (omega arith))

-- ---- rows that a step doesn't change

-- the row of a class after a step
row_next : (files : Program) (kind : declared_above.Above) (rows : List (List Name)) (name : Name)
    → row_of files (next_rows files kind rows) name ≡ next_row files kind rows name
row_next files kind rows name = by (place_of files name) refl
  where
    by : (o : Option ℕ) → place_of files name ≡ o
        → option_map_or (λ row. row) (option_and_then (slice_get (next_rows files kind rows)) o) []
        ≡ next_row files kind rows name
    by None e = ap (λ (l : List Name). each_once (flat_map (λ n. n ∷ row_of files rows n) l)) (sym (next_of_none files kind name (no_class files name e)))
    by (Some k) e = at (slice_get (classes_of files) k) refl
      where
        at : (c : Option FileTree) → slice_get (classes_of files) k ≡ c
            → option_map_or (λ row. row) (slice_get (next_rows files kind rows) k) []
            ≡ next_row files kind rows name
        at None g = absurd (no_item (classes_of files) k (position_within (is_named name) (classes_of files) k e) g)
        at (Some file) g =
            ap (λ (o : Option (List Name)). option_map_or (λ row. row) o []) (get_map (λ (file : FileTree). next_row files kind rows (name_of file)) (classes_of files) k file g)
            ∙ ap (next_row files kind rows) (name_at_place files name k file e g)

row_right : (files : Program) (rank : Name → ℕ) → Ranked files rank → (kind : declared_above.Above) (rows : List (List Name))
    → next_rows files kind rows ≡ rows → (n : ℕ) (name : Name) → rank name ≤ n
    → row_of files rows name ≡ each_once (names_above (directly_above files kind) n name)
row_right files rank r kind rows same zero name p =
    ap (λ l. row_of files l name) (sym same) ∙ row_next files kind rows name
    ∙ ap (λ (l : List Name). each_once (flat_map (λ n. n ∷ row_of files rows n) l)) (next_of_none files kind name (r.none name p))
row_right files rank r kind rows same (suc n) name p =
    ap (λ l. row_of files l name) (sym same) ∙ row_next files kind rows name
    ∙ once_where (λ s. nat_le (rank name) (rank s)) (row_of files rows) (names_above (directly_above files kind) n) [] (directly_above files kind name) (lower_above files rank r kind name)
    (λ s low. let less : rank s < rank name = leb-false (rank name) (rank s) low in row_right files rank r kind rows same n s (omega arith))

-- they are the rows within as many steps as there are classes but one, and within any more
pub settled_rows : (files : Program) → HasRanks files → (kind : declared_above.Above) (n : ℕ) → length (classes_of files) ≤ suc n
    → (rows : List (List Name)) → next_rows files kind rows ≡ rows → rows ≡ rows_of files kind n
unfolding rows_of
settled_rows files h kind n enough rows same =
    let r = ranked_by files h in
    sym same
    ∙ map_same (λ (file : FileTree). next_row files kind rows (name_of file)) (λ (file : FileTree). each_once (names_above (directly_above files kind) n (name_of file)))
    (λ file. let few : rank_of files h.ranks (name_of file) < length (classes_of files) = r.few (name_of file) in
    sym (row_next files kind rows (name_of file)) ∙ ap (λ l. row_of files l (name_of file)) same ∙ row_right files (rank_of files h.ranks) r kind rows same n (name_of file) (omega arith)) (classes_of files)
