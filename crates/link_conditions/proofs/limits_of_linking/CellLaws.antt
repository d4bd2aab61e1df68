-- Cells among the fields that a class declares.
use Rattle.std.proofs.Common.{◌≡◌, suc, ◌+◌, Bool, true, false, ◌&&◌, cond, List, [], ◌∷◌, ◌++◌, length, map, refl, sym, ap, ◌∙◌, arith, Option, Some}
use Rattle.std.specs.Option.{option_map_or}
use Rattle.std.specs.List.{filter}
use Rattle.model.specs.Names.{Name}
use Rattle.model.specs.Tree.{FileTree}
use Rattle.model.specs.AccessFlags.{is_instance_field}
use Rattle.model.specs.Classes.{Program, name_of, class_of}
use Rattle.model.specs.HiddenMembers.{is_cell}
use Rattle.model.specs.Lookup.{field_member, own_instance_fields}
use Rattle.hierarchy.proofs.SetLaws.{named_so}
use Rattle.link_conditions.specs.limits_of_linking.Cells.{own_cells}

-- a test of what a first test lets through
filtered : {A B : Type 0} (q : A → Bool) (f : A → B) (p : B → Bool) (xs : List A)
    → length (filter p (map f (filter q xs))) ≡ length (filter (λ x. q x && p (f x)) xs)
filtered q f p [] = refl
filtered q f p (x ∷ xs) = by (q x) (p (f x)) refl (filtered q f p xs)
  where
    by : (a b : Bool) → p (f x) ≡ b → length (filter p (map f (filter q xs))) ≡ length (filter (λ x. q x && p (f x)) xs)
        → length (filter p (map f (cond a (x ∷ filter q xs) (filter q xs)))) ≡ length (cond (a && p (f x)) (x ∷ filter (λ x. q x && p (f x)) xs) (filter (λ x. q x && p (f x)) xs))
    by true true e rest = rw e (ap suc rest)
    by true false e rest = rw e rest
    by false b e rest = rest

pub own_cells_are : (file : FileTree)
    → length (filter is_cell (map (field_member (name_of file) file.pool) (filter is_instance_field file.fields))) ≡ own_cells file
own_cells_are file = filtered is_instance_field (field_member (name_of file) file.pool) is_cell file.fields

-- by the name of the class
pub own_within : (files : Program) (class : Name) (file : FileTree) → class_of files class ≡ Some file
    → length (filter is_cell (own_instance_fields files class)) ≡ own_cells file
own_within files class file e =
    ap (λ (o : Option FileTree). length (filter is_cell (option_map_or (λ (of : FileTree). map (field_member class of.pool) (filter is_instance_field of.fields)) o []))) e
    ∙ ap (λ name. length (filter is_cell (map (field_member name file.pool) (filter is_instance_field file.fields)))) (sym (named_so files class file e))
    ∙ own_cells_are file

pub filter_append : {A : Type 0} (p : A → Bool) (xs ys : List A)
    → length (filter p (xs ++ ys)) ≡ length (filter p xs) + length (filter p ys)
filter_append p [] ys = omega arith
filter_append p (x ∷ xs) ys = by (p x) (filter_append p xs ys)
  where
    by : (b : Bool) → length (filter p (xs ++ ys)) ≡ length (filter p xs) + length (filter p ys)
        → length (cond b (x ∷ filter p (xs ++ ys)) (filter p (xs ++ ys))) ≡ length (cond b (x ∷ filter p xs) (filter p xs)) + length (filter p ys)
    by true h = omega (arith, h)
    by false h = h
