-- Classes by their places.
use Rattle.std.proofs.Common.{◌≡◌, ℕ, zero, suc, ◌+◌, ◌-◌, ◌<◌, length, [], Option, Some, None, true, false, cond, ◌||◌, refl, sym, ap, ◌∙◌, arith}
use Rattle.std.specs.Prelude.{is_some, option_map}
use Rattle.std.specs.Option.{option_and_then, option_map_or}
use Rattle.std.proofs.lemmas.Bool.{false≢true}
use Rattle.model.specs.Names.{Name, java_lang_object}
use Rattle.model.specs.Tree.{FileTree}
use Rattle.model.specs.BuiltIn.{built_in_classes}
use Rattle.model.specs.Classes.{Program, name_of, classes_of, class_of, superclass_of, is_within, is_subclass}
use Rattle.model.specs.TypeJoin.{common_within}
use Rattle.hierarchy.specs.Places.{place_of, name_at}
use Rattle.hierarchy.proofs.SetLaws.{class_at_place, no_class, name_at_place}
use Rattle.hierarchy.proofs.RowLaws.{name_eq_refl}

-- Object is the first class of every program
pub object_at : (files : Program) → name_at files 0 ≡ java_lang_object
unfolding built_in_classes
object_at files = refl

within_itself : (files : Program) (n : ℕ) (c : Name) → is_within files n c c ≡ true
within_itself files zero c = name_eq_refl c
within_itself files (suc n) c = ap (λ b. b || option_map_or (λ s. is_within files n s c) (superclass_of files c) false) (name_eq_refl c)

pub its_own_subclass : (files : Program) (c : Name) → is_subclass files c c ≡ true
its_own_subclass files c = within_itself files (length (classes_of files)) c

-- the place of a class that there is has its name
pub placed : (files : Program) (name : Name) → is_some (class_of files name) ≡ true
    → option_map (name_at files) (place_of files name) ≡ Some name
placed files name there = by (place_of files name) refl
  where
    named : (k : ℕ) → place_of files name ≡ Some k → (o : Option FileTree) → class_of files name ≡ o → Some (name_at files k) ≡ Some name
    named k e None q = absurd (false≢true (sym (ap is_some q) ∙ there))
    named k e (Some file) q =
        let at = sym (class_at_place files name k e) ∙ q in
        ap (λ o. Some (option_map_or name_of o [])) at ∙ ap (λ n. Some n) (name_at_place files name k file e at)

    by : (o : Option ℕ) → place_of files name ≡ o → option_map (name_at files) o ≡ Some name
    by None e = absurd (false≢true (sym (ap is_some (no_class files name e)) ∙ there))
    by (Some k) e = named k e (class_of files name) refl

-- ---- the walk upwards

pub common_here : (files : Program) (n i : ℕ) (c d : Name) → i < suc n → is_subclass files d c ≡ true
    → common_within files (suc n - i) c d ≡ Some c
common_here files n i c d l e =
    let k : suc n - i ≡ suc (n - i) = omega arith in
    ap (λ m. common_within files m c d) k ∙ ap (λ b. cond b (Some c) (option_and_then (λ s. common_within files (n - i) s d) (superclass_of files c))) e

pub common_above : (files : Program) (n i : ℕ) (c s d : Name) → i < n → is_subclass files d c ≡ false → superclass_of files c ≡ Some s
    → common_within files (suc n - i) c d ≡ common_within files (suc n - (i + 1)) s d
common_above files n i c s d l e q =
    let k : suc n - i ≡ suc (suc n - (i + 1)) = omega arith in
    ap (λ m. common_within files m c d) k ∙ ap (λ b. cond b (Some c) (option_and_then (λ s. common_within files (suc n - (i + 1)) s d) (superclass_of files c))) e ∙ ap (λ o. option_and_then (λ s. common_within files (suc n - (i + 1)) s d) o) q

pub common_ends : (files : Program) (n i : ℕ) (c d : Name) → i < suc n → is_subclass files d c ≡ false → superclass_of files c ≡ None
    → common_within files (suc n - i) c d ≡ None
common_ends files n i c d l e q =
    let k : suc n - i ≡ suc (n - i) = omega arith in
    ap (λ m. common_within files m c d) k ∙ ap (λ b. cond b (Some c) (option_and_then (λ s. common_within files (n - i) s d) (superclass_of files c))) e ∙ ap (λ o. option_and_then (λ s. common_within files (n - i) s d) o) q

pub common_last : (files : Program) (n i : ℕ) (c d : Name) → suc n - i ≡ 1 → is_subclass files d c ≡ false
    → common_within files (suc n - i) c d ≡ None
common_last files n i c d k e =
    ap (λ m. common_within files m c d) k ∙ ap (λ b. cond b (Some c) (option_and_then (λ s. common_within files zero s d) (superclass_of files c))) e ∙ none (superclass_of files c)
  where
    none : (o : Option Name) → option_and_then (λ s. common_within files zero s d) o ≡ None
    none None = refl
    none (Some s) = refl
