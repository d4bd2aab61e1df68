-- Members by the places of the classes that declare them.
use Rattle.std.proofs.Common.{◌≡◌, ◌∙◌, ℕ, zero, suc, Bool, true, false, List, [], ◌∷◌, map, refl, sym, ap, subst, Option, Some, None}
use Rattle.std.specs.Prelude.{position, slice_get, IfSome}
use Rattle.std.specs.Option.{option_and_then, option_map, option_map_or}
use Rattle.model.specs.Names.{Name, Member}
use Rattle.model.specs.Tree.{FileTree, MethodTree}
use Rattle.model.specs.Classes.{Program, is_method}
use Rattle.model.specs.Lookup.{in_class, where_so, is_field, method_in_class, field_in_class}
use Rattle.hierarchy.specs.Places.{class_at, place_of, member_in, IsFieldAt, IsMethodAt}
use Rattle.hierarchy.specs.declared.place.MemberPlace.{MemberPlace}
use Rattle.hierarchy.specs.Numbers.{place_by}
use Rattle.hierarchy.specs.MembersAt.{SoughtIn, member_at, where_wanted, method_here, method_at, field_at, field_place}
use Rattle.hierarchy.proofs.Finding.{position_within}
use Rattle.hierarchy.proofs.SetLaws.{class_at_place, no_class, no_item, method_found, no_method, method_of_none, field_at as field_declared, no_field, field_of_none}
use Rattle.hierarchy.proofs.LineageLaws.{named_at}

module _ (files : Program) (m : Member) where
  -- ---- methods

  module _ (wanted : MethodTree → Bool) where
    -- the method that the class of a name declares stands where that class does
    pub method_by_place : (class : Name) (place : ℕ) → place_of files class ≡ Some place
        → option_map (member_in files m) (method_at files wanted m place) ≡ method_in_class files wanted m class
    method_by_place class place e = by (class_at files place) refl
      where
        found : (file : FileTree) → class_at files place ≡ Some file → (i : ℕ) → position (is_method file.pool m.name m.descriptor) file.methods ≡ Some i
            → (o : Option MethodTree) → slice_get file.methods i ≡ o
            → option_map (member_in files m) (where_wanted (option_map_or wanted o false) (member_at place i)) ≡ method_in_class files wanted m class
        found file q i p None at = absurd (no_item file.methods i (position_within (is_method file.pool m.name m.descriptor) file.methods i p) at)
        found file q i p (Some f) at = where_it_counts (wanted f) ∙ sym (method_found files wanted m class file f i (class_at_place files class place e ∙ q) p at)
          where
            where_it_counts : (b : Bool) → option_map (member_in files m) (where_wanted b (member_at place i)) ≡ where_so b (in_class class m)
            where_it_counts true = ap (λ (n : Name). Some (in_class n m)) (named_at files class place e)
            where_it_counts false = refl

        here : (file : FileTree) → class_at files place ≡ Some file → (o : Option ℕ) → position (is_method file.pool m.name m.descriptor) file.methods ≡ o
            → option_map (member_in files m) (option_and_then (λ i. where_wanted (option_map_or wanted (slice_get file.methods i) false) (member_at place i)) o)
            ≡ method_in_class files wanted m class
        here file q None p = sym (no_method files wanted m class file (class_at_place files class place e ∙ q) p)
        here file q (Some i) p = found file q i p (slice_get file.methods i) refl

        by : (o : Option FileTree) → class_at files place ≡ o
            → option_map (member_in files m) (option_and_then (method_here wanted m place) o) ≡ method_in_class files wanted m class
        by None q = sym (method_of_none files wanted m class (class_at_place files class place e ∙ q))
        by (Some file) q = here file q (position (is_method file.pool m.name m.descriptor) file.methods) refl

    -- it stands there
    pub is_method_at : (place : ℕ) → IfSome (method_at files wanted m place) (IsMethodAt files m)
    is_method_at place = by (class_at files place) refl
      where
        there : (file : FileTree) → class_at files place ≡ Some file → (i : ℕ) → position (is_method file.pool m.name m.descriptor) file.methods ≡ Some i
            → (b : Bool) → IfSome (where_wanted b (member_at place i)) (IsMethodAt files m)
        there file q i p true = ap (λ (o : Option FileTree). option_and_then (λ (f : FileTree). position (is_method f.pool m.name m.descriptor) f.methods) o) q ∙ p
        there file q i p false = tt

        here : (file : FileTree) → class_at files place ≡ Some file → (o : Option ℕ) → position (is_method file.pool m.name m.descriptor) file.methods ≡ o
            → IfSome (option_and_then (λ i. where_wanted (option_map_or wanted (slice_get file.methods i) false) (member_at place i)) o) (IsMethodAt files m)
        here file q None p = tt
        here file q (Some i) p = there file q i p (option_map_or wanted (slice_get file.methods i) false)

        by : (o : Option FileTree) → class_at files place ≡ o → IfSome (option_and_then (method_here wanted m place) o) (IsMethodAt files m)
        by None q = tt
        by (Some file) q = here file q (position (is_method file.pool m.name m.descriptor) file.methods) refl

  -- ---- fields

  pub field_by_place : (class : Name) (place : ℕ) → place_of files class ≡ Some place
      → option_map (member_in files m) (field_at files m place) ≡ field_in_class files m class
  field_by_place class place e = by (class_at files place) refl
    where
      here : (file : FileTree) → class_at files place ≡ Some file → (o : Option ℕ) → position (is_field file.pool m.name m.descriptor) file.fields ≡ o
          → option_map (member_in files m) (option_map (member_at place) o) ≡ field_in_class files m class
      here file q None p = sym (no_field files m class file (class_at_place files class place e ∙ q) p)
      here file q (Some i) p =
          ap (λ (n : Name). Some (in_class n m)) (named_at files class place e)
          ∙ sym (field_declared files m class file i (class_at_place files class place e ∙ q) p)

      by : (o : Option FileTree) → class_at files place ≡ o
          → option_map (member_in files m) (option_map (member_at place) (option_and_then (λ (f : FileTree). position (is_field f.pool m.name m.descriptor) f.fields) o))
          ≡ field_in_class files m class
      by None q = sym (field_of_none files m class (class_at_place files class place e ∙ q))
      by (Some file) q = here file q (position (is_field file.pool m.name m.descriptor) file.fields) refl

  pub is_field_at : (place : ℕ) → IfSome (field_at files m place) (IsFieldAt files m)
  is_field_at place = by (field_place files m place) refl
    where
      by : (o : Option ℕ) → field_place files m place ≡ o → IfSome (option_map (member_at place) o) (IsFieldAt files m)
      by None q = tt
      by (Some i) q = q

-- ---- members by the numbers of names, where the places of the classes of these are kept

by_number : (files : Program) (m : Member) (found : Name → Option Member) (at : ℕ → Option MemberPlace)
    → ((class : Name) (place : ℕ) → place_of files class ≡ Some place → option_map (member_in files m) (at place) ≡ found class)
    → ((class : Name) → place_of files class ≡ None → found class ≡ None) → (names : List Name) (number : ℕ)
    → option_map (member_in files m) (option_and_then at (place_by (map (place_of files) names) number)) ≡ option_and_then found (slice_get names number)
by_number files m found at there absent [] number = refl
by_number files m found at there absent (x ∷ names) zero = by (place_of files x) refl
  where
    by : (o : Option ℕ) → place_of files x ≡ o → option_map (member_in files m) (option_and_then at o) ≡ found x
    by None e = sym (absent x e)
    by (Some place) e = there x place e
by_number files m found at there absent (x ∷ names) (suc number) = by_number files m found at there absent names number

pub method_by_number : (files : Program) (m : Member) (wanted : MethodTree → Bool) (names : List Name) (places : List (Option ℕ)) (number : ℕ)
    (place : Option ℕ) → places ≡ map (place_of files) names → place ≡ place_by places number
    → option_map (member_in files m) (option_and_then (method_at files wanted m) place) ≡ option_and_then (method_in_class files wanted m) (slice_get names number)
method_by_number files m wanted names places number place are is =
    ap (λ o. option_map (member_in files m) (option_and_then (method_at files wanted m) o)) (is ∙ ap (λ (l : List (Option ℕ)). place_by l number) are)
    ∙ by_number files m (method_in_class files wanted m) (method_at files wanted m) (method_by_place files m wanted) (λ class e. method_of_none files wanted m class (no_class files class e)) names number

pub field_by_number : (files : Program) (m : Member) (names : List Name) (places : List (Option ℕ)) (number : ℕ) (place : Option ℕ)
    → places ≡ map (place_of files) names → place ≡ place_by places number
    → option_map (member_in files m) (option_and_then (field_at files m) place) ≡ option_and_then (field_in_class files m) (slice_get names number)
field_by_number files m names places number place are is =
    ap (λ o. option_map (member_in files m) (option_and_then (field_at files m) o)) (is ∙ ap (λ (l : List (Option ℕ)). place_by l number) are)
    ∙ by_number files m (field_in_class files m) (field_at files m) (field_by_place files m) (λ class e. field_of_none files m class (no_class files class e)) names number

-- what is said of a member that is sought, of the classes and the member
pub of_sought : (P : Program → Member → Type 0) (s : SoughtIn) (files : Program) (m : Member) → s.files ≡ files → s.member ≡ m
    → P s.files s.member → P files m
of_sought P s files m same_files same_member p = subst (P files) same_member (subst (λ f. P f s.member) same_files p)
