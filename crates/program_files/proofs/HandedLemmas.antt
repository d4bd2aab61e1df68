-- The classes of files, one after another, and the file that is put first.
use Rattle.std.proofs.Common.{arith, ◌≡◌, ◌∙◌, ◌<◌, ℕ, zero, suc, Bool, true, List, [], ◌∷◌, ◌++◌, Option, ap, ap₂, cond, length, map, refl, subst, sym}
use Rattle.std.specs.Prelude.{Some, None, position, remove, slice_index_or, string_bytes}
use Rattle.std.specs.Option.{option_map_or}
use Rattle.std.specs.declared.string.String.{String}
use Rattle.std.proofs.lemmas.List.{get_or-map, length-map}
use Rattle.std.proofs.lemmas.List.Quantifiers.{position-Some}
use Rattle.program_files.specs.Folders.{Held, Path, Reads}
use Rattle.program_files.specs.Handed.{AreClasses, IsHeld, IsPutFirst, main_names}
use Rattle.program_files.specs.declared.held_class.HeldClass.{HeldClass}

abbrev name_of_held : Option HeldClass → List ℕ
name_of_held class = option_map_or (λ (held : HeldClass). held.name.items) class []

-- ---- classes

-- one more file holds a class, or none
pub classes_on : (held : Held) (paths : List Path) (classes : List (Option HeldClass)) (path : Path) (class : Option HeldClass) → AreClasses held paths classes
    → (bytes : List ℕ) × Reads (held path) bytes × IsHeld bytes class → AreClasses held (paths ++ path ∷ []) (classes ++ class ∷ [])
classes_on held [] [] path class so_far holds = (holds, refl)
classes_on held [] (other ∷ classes) path class so_far holds = absurd (omega (arith, ap length so_far))
classes_on held (first ∷ paths) [] path class so_far holds = absurd so_far
classes_on held (first ∷ paths) (other ∷ classes) path class so_far holds = (so_far.0, classes_on held paths classes path class so_far.1 holds)

-- there are as many classes as files
as_many : (held : Held) (paths : List Path) (classes : List (Option HeldClass)) → AreClasses held paths classes → length classes ≡ length paths
as_many held [] classes are = ap length are
as_many held (path ∷ paths) [] are = absurd are
as_many held (path ∷ paths) (class ∷ classes) are = ap suc (as_many held paths classes are.1)

-- a class is found at the place of a file
pub found_within : {Z : Type 0} (held : Held) (test : Option HeldClass → Bool) (given : List (String Z)) (classes : List (Option HeldClass)) (place : ℕ)
    → AreClasses held (map string_bytes given) classes → position test classes ≡ Some place → place < length given
found_within held test given classes place are found =
    let within = (position-Some test classes place None found).0 in
    let many : length classes ≡ length given = as_many held (map string_bytes given) classes are ∙ length-map given string_bytes in
    subst (λ (n : ℕ). place < n) many within

-- ---- names

-- a class that declares a main is named
pub names_of_main : (held : HeldClass) → held.has_main ≡ true → main_names (Some held ∷ []) ≡ held.name.items ∷ []
names_of_main held has = ap (λ b. map name_of_held (cond b (Some held ∷ []) [])) has

-- ---- the file that is put first

-- what is made of elements without one
map_remove : {A B : Type 0} (f : A → B) (xs : List A) (i : ℕ) → map f (remove xs i) ≡ remove (map f xs) i
map_remove f [] zero = refl
map_remove f [] (suc i) = refl
map_remove f (x ∷ xs) zero = refl
map_remove f (x ∷ xs) (suc i) = ap (λ rest. f x ∷ rest) (map_remove f xs i)

-- an element that is taken out and put first
pub put_first : {Z : Type 0} (given : List (String Z)) (place : ℕ) (first : String Z) (ordered : List (String Z)) → place < length given
    → first ≡ slice_index_or given place first → ordered ≡ first ∷ remove given place
    → IsPutFirst place (map string_bytes given) (map string_bytes ordered)
put_first given place first ordered within is are = record {
  there = rw (length-map given string_bytes) within;
  first = ap (map string_bytes) are ∙ ap₂ (λ one rest. one ∷ rest)
      (ap string_bytes is ∙ sym (get_or-map string_bytes given place first [] within)) (map_remove string_bytes given place);
}
