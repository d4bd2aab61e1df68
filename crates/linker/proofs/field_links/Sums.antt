-- Sums of instance fields up the chains of superclasses.
use Rattle.std.proofs.Common.{◌≡◌, ℕ, zero, suc, ◌+◌, ◌-◌, ◌<◌, Bool, true, false, cond, List, [], ◌∷◌, ◌++◌, length, map, refl, sym, ap, ◌∙◌, length-append, arith, Option, Some, None}
use Rattle.std.specs.Prelude.{position, slice_get}
use Rattle.std.specs.Option.{option_and_then, option_map_or}
use Rattle.std.specs.List.{filter}
use Rattle.std.proofs.lemmas.List.{length-map}
use Rattle.model.specs.Names.{Name, Member}
use Rattle.model.specs.Tree.{FileTree}
use Rattle.model.specs.AccessFlags.{is_instance_field}
use Rattle.model.specs.Classes.{Program, name_of, super_name_of, is_named, class_of, classes_of, superclass_of}
use Rattle.model.specs.HiddenMembers.{is_cell}
use Rattle.model.specs.Lookup.{own_instance_fields, field_member}
use Rattle.run_laws.proofs.laws.Homes.{class_named}
use Rattle.link_conditions.proofs.limits_of_linking.CellLaws.{own_cells_are}
use Rattle.linker.specs.declared.field_links.chain.Counted.{Counted}
use Rattle.linker.specs.declared.field_links.chain.Counted.TheVariants as counted
use Rattle.linker.specs.declared.field_links.chain.Shape.{Shape}
use Rattle.linker.specs.field_links.Chains.{own_count, count_in, shape_of, shapes, chain_sum}
use Rattle.linker.proofs.field_links.Lineages.{fields_to, next_fields, top_fields}
use Rattle.run_laws.proofs.laws.Lists.{get_map}

pub get_no_map : {A B : Type 0} (f : A → B) (xs : List A) (i : ℕ) → slice_get xs i ≡ None → slice_get (map f xs) i ≡ None
get_no_map f [] i e = refl
get_no_map f (y ∷ xs) zero e = absurd cc
get_no_map f (y ∷ xs) (suc i) e = get_no_map f xs i e

-- ---- counts

count_none : (what : Counted) → count_in what [] ≡ 0
count_none counted.Fields = refl
count_none counted.Cells = refl

length-filter-append : (p : Member → Bool) (xs ys : List Member) → length (filter p (xs ++ ys)) ≡ length (filter p xs) + length (filter p ys)
length-filter-append p [] ys = omega arith
length-filter-append p (x ∷ xs) ys = by (p x) (length-filter-append p xs ys)
  where
    by : (b : Bool) → length (filter p (xs ++ ys)) ≡ length (filter p xs) + length (filter p ys)
        → length (cond b (x ∷ filter p (xs ++ ys)) (filter p (xs ++ ys))) ≡ length (cond b (x ∷ filter p xs) (filter p xs)) + length (filter p ys)
    by true h = omega (arith, h)
    by false h = h

count_append : (what : Counted) (xs ys : List Member) → count_in what (xs ++ ys) ≡ count_in what xs + count_in what ys
count_append counted.Fields xs ys = length-append xs ys
count_append counted.Cells xs ys = length-filter-append is_cell xs ys

own_counted : (what : Counted) (file : FileTree)
    → count_in what (map (field_member (name_of file) file.pool) (filter is_instance_field file.fields)) ≡ own_count what file
own_counted counted.Fields file = length-map (filter is_instance_field file.fields) (field_member (name_of file) file.pool)
own_counted counted.Cells file = own_cells_are file

-- ---- sums

module _ (files : Program) (what : Counted)
    (at_own_name : (k : ℕ) (file : FileTree) → slice_get (classes_of files) k ≡ Some file → class_of files (name_of file) ≡ Some file)
    (at_place : (name : Name) (k : ℕ) → position (is_named name) (classes_of files) ≡ Some k → class_of files name ≡ slice_get (classes_of files) k)
    (nowhere : (name : Name) → position (is_named name) (classes_of files) ≡ None → class_of files name ≡ None)
  where
    abbrev count : ℕ → Name → ℕ
    count n name = count_in what (fields_to files n name)

    -- a name without a class
    no_own : (s : Name) → class_of files s ≡ None → own_instance_fields files s ≡ []
    no_own s e = ap (λ (o : Option FileTree). option_map_or (λ (file : FileTree). map (field_member s file.pool) (filter is_instance_field file.fields)) o []) e

    no_fields : (n : ℕ) (s : Name) → class_of files s ≡ None → fields_to files n s ≡ []
    no_fields zero s e = refl
    no_fields (suc n) s e = top_fields files n s (ap (λ (o : Option FileTree). option_and_then super_name_of o) e) ∙ no_own s e

    none_counted : (n : ℕ) (s : Name) → class_of files s ≡ None → count n s ≡ 0
    none_counted n s e = ap (count_in what) (no_fields n s e) ∙ count_none what

    own_length : (file : FileTree) → class_of files (name_of file) ≡ Some file
        → count_in what (own_instance_fields files (name_of file)) ≡ own_count what file
    own_length file e =
        ap (λ (o : Option FileTree). count_in what (option_map_or (λ (of : FileTree). map (field_member (name_of file) of.pool) (filter is_instance_field of.fields)) o [])) e ∙ own_counted what file

    pub sum_of : (n : ℕ) (k : ℕ) (o : Option FileTree) → slice_get (classes_of files) k ≡ o
        → chain_sum (shapes what files) n k ≡ option_map_or (λ (file : FileTree). count n (name_of file)) o 0
    unfolding shapes
    sum_of zero k None e = refl
    sum_of zero k (Some file) e = sym (count_none what)
    sum_of (suc n) k None e = ap (λ (o : Option Shape). option_map_or (λ (row : Shape). row.fields + option_map_or (λ (above : ℕ). chain_sum (shapes what files) n above) row.superclass 0) o 0) (get_no_map (shape_of what files) (classes_of files) k e)
    sum_of (suc n) k (Some file) e =
        ap (λ (o : Option Shape). option_map_or (λ (row : Shape). row.fields + option_map_or (λ (above : ℕ). chain_sum (shapes what files) n above) row.superclass 0) o 0) (get_map (shape_of what files) (classes_of files) k file e)
        ∙ by (λ j o h. sum_of n j o h) (super_name_of file) refl
      where
        above : (o : Option Name) → super_name_of file ≡ o → superclass_of files (name_of file) ≡ o
        above o q = ap (λ (o : Option FileTree). option_and_then super_name_of o) (at_own_name k file e) ∙ q

        to : (j : ℕ) (s : Name) (o : Option FileTree) → class_of files s ≡ o
            → option_map_or (λ (file : FileTree). count n (name_of file)) o 0 ≡ count n s
        to j s None c = sym (none_counted n s c)
        to j s (Some f) c = ap (count n) (class_named files s f c)

        sum_above : ((j : ℕ) (o : Option FileTree) → slice_get (classes_of files) j ≡ o
            → chain_sum (shapes what files) n j ≡ option_map_or (λ (file : FileTree). count n (name_of file)) o 0)
            → (s : Name) (o : Option ℕ) → position (is_named s) (classes_of files) ≡ o
            → option_map_or (λ (above : ℕ). chain_sum (shapes what files) n above) o 0 ≡ count n s
        sum_above rest s None p = sym (none_counted n s (nowhere s p))
        sum_above rest s (Some j) p = rest j (slice_get (classes_of files) j) refl ∙ to j s (slice_get (classes_of files) j) (at_place s j p)

        by : ((j : ℕ) (o : Option FileTree) → slice_get (classes_of files) j ≡ o
            → chain_sum (shapes what files) n j ≡ option_map_or (λ (file : FileTree). count n (name_of file)) o 0)
            → (o : Option Name) → super_name_of file ≡ o
            → own_count what file + option_map_or (λ (above : ℕ). chain_sum (shapes what files) n above)
            (option_and_then (λ s. position (is_named s) (classes_of files)) o) 0 ≡ count (suc n) (name_of file)
        by rest None q = omega (arith, own_length file (at_own_name k file e), ap (count_in what) (top_fields files n (name_of file) (above None q)))
        by rest (Some s) q =
            omega (
              arith,
              own_length file (at_own_name k file e),
              sum_above rest s (position (is_named s) (classes_of files)) refl,
              ap (count_in what) (next_fields files n (name_of file) s (above (Some s) q)),
              count_append what (fields_to files n s) (own_instance_fields files (name_of file)),
            )

-- ---- a step up

pub chain_step : (rows : List Shape) (n i place : ℕ) → i < n
    → chain_sum rows (n - i) place ≡ option_map_or
    (λ (row : Shape). row.fields + option_map_or (λ (above : ℕ). chain_sum rows (n - (i + 1)) above) row.superclass 0)
    (slice_get rows place) 0
chain_step rows n i place h = ap (λ k. chain_sum rows k place) (one_less n i h)
  where
    one_less : (n i : ℕ) → i < n → n - i ≡ suc (n - (i + 1))
    one_less n i h = omega arith

pub step_nowhere : (rows : List Shape) (n i place : ℕ) → i < n → slice_get rows place ≡ None → chain_sum rows (n - i) place ≡ 0
step_nowhere rows n i place h at = rw (chain_step rows n i place h, at) refl

pub step_last : (rows : List Shape) (n i place : ℕ) (row : Shape) → i < n → slice_get rows place ≡ Some row → row.superclass ≡ None
    → chain_sum rows (n - i) place ≡ row.fields
step_last rows n i place row h at top = rw (chain_step rows n i place h, at, top) (omega arith)

pub step_on : (rows : List Shape) (n i place : ℕ) (row : Shape) (above : ℕ) → i < n → slice_get rows place ≡ Some row
    → row.superclass ≡ Some above → chain_sum rows (n - i) place ≡ row.fields + chain_sum rows (n - (i + 1)) above
step_on rows n i place row above h at on = rw (chain_step rows n i place h, at, on) refl
