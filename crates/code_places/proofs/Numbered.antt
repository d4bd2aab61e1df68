-- The points of methods by their numbers.
use Rattle.std.proofs.Common.{◌≡◌, ◌<◌, ℕ, zero, suc, ◌+◌, List, [], ◌∷◌, ◌++◌, Bool, true, false, Option, Some, None, append_assoc, get_or, length, take, refl, sym, ap, subst, ◌∙◌, arith}
use Rattle.std.specs.Prelude.{◌||◌, slice_get}
use Rattle.std.specs.Option.{option_map, option_map_or}
use Rattle.std.specs.List.{list_any}
use Rattle.std.proofs.lemmas.List.{append-nil, length-take, take_more}
use Rattle.std.proofs.lemmas.List.Folds.{list_any-append, list_any_at}
use Rattle.model.specs.Names.{Member}
use Rattle.model.specs.Classes.{Program, Body}
use Rattle.model.specs.Classes as classes
use Rattle.types.specs.declared.method_code.declaration.MethodCode.{MethodCode}
use Rattle.types.specs.method_code.View.{body_of, member_of, shown}
use Rattle.place_texts.specs.Places.{PlaceOf}
use Rattle.code_places.specs.declared.points.Point.{Point}
use Rattle.code_places.specs.Methods.{with_body}
use Rattle.code_places.specs.Points.{has_code, names, offsets_in, offsets_of, points_at, points_from}

pub one_method : (trees : Program) (place : PlaceOf) (number : ℕ) (methods : List Member) (m : Member)
    → points_from trees place number (methods ++ m ∷ []) ≡ points_from trees place number methods ++ points_at (number + length methods) (offsets_of trees place m)
one_method trees place number [] m =
    let e : number ≡ number + zero = omega arith in
    append-nil (points_at number (offsets_of trees place m)) ∙ ap (λ n. points_at n (offsets_of trees place m)) e
one_method trees place number (first ∷ methods) m =
    let e : suc number + length methods ≡ number + suc (length methods) = omega arith in
    ap (λ l. points_at number (offsets_of trees place first) ++ l) (one_method trees place (suc number) methods m ∙ ap (λ n. points_from trees place (suc number) methods ++ points_at n (offsets_of trees place m)) e)
    ∙ sym (append_assoc (points_at number (offsets_of trees place first)) (points_from trees place (suc number) methods) (points_at (number + suc (length methods)) (offsets_of trees place m)))

-- ---- a number that is one of a method

pub there_is : {A : Type 0} (xs : List A) (i : ℕ) → i < length xs → (x : A) × (slice_get xs i ≡ Some x)
there_is [] i less = absurd (omega arith)
there_is (x ∷ xs) zero less = (x, refl)
there_is (x ∷ xs) (suc i) less = there_is xs i (omega (arith, less))

same_item : {A : Type 0} (xs : List A) (i : ℕ) (x d : A) → slice_get xs i ≡ Some x → get_or xs i d ≡ x
same_item [] i x d is = absurd cc
same_item (y ∷ xs) zero x d is = cc
same_item (y ∷ xs) (suc i) x d is = same_item xs i x d is

taken : {A : Type 0} (xs : List A) (i : ℕ) (x : A) → i < length xs → slice_get xs i ≡ Some x → take (i + 1) xs ≡ take i xs ++ x ∷ []
taken xs i x less is = take_more xs i x less ∙ ap (λ y. take i xs ++ y ∷ []) (same_item xs i x x is)

-- ---- the method of a number

abbrev of_pair : Option (Member × Body) → Member × Body → Member × Body
of_pair None default = default
of_pair (Some pair) default = pair

first_same : (a b : Member) (c d : Body) → Some (with_body a c) ≡ Some (with_body b d) → a ≡ b
first_same a b c d e = ap (λ (o : Option (Member × Body)). (of_pair o (with_body b d)).0) e

second_same : (a b : Member) (c d : Body) → Some (with_body a c) ≡ Some (with_body b d) → c ≡ d
second_same a b c d e = ap (λ (o : Option (Member × Body)). (of_pair o (with_body b d)).1) e

pub record SaysOf (trees : Program) (place : PlaceOf) (method : Member) (offsets : List ℕ) (is_its : Bool) : Type 0 where
  pub its_offsets : offsets_of trees place method ≡ offsets
  pub its_code : has_code trees place method ≡ is_its

module _ (trees : Program) (place : PlaceOf) (method : Member) where
  abbrev Says : List ℕ → Bool → Type 0
  Says offsets is_its = SaysOf trees place method offsets is_its

  without : (o : Option Body) → classes.body_of trees method ≡ o → None ≡ option_map (with_body method) o → Says [] false
  without None is e =
      record {
        its_offsets = ap (λ (b : Option Body). option_map_or (offsets_in place method) b []) is;
        its_code = ap (λ (b : Option Body). option_map_or (λ (body : Body). names place method) b false) is;
      }
  without (Some body) is e = absurd cc

  within : (m : MethodCode) (o : Option Body) → classes.body_of trees method ≡ o → Some (with_body (member_of m) (body_of m)) ≡ option_map (with_body method) o
      → Says (offsets_in place (member_of m) (body_of m)) (names place (member_of m))
  within m None is e = absurd cc
  within m (Some body) is e =
      let same : member_of m ≡ method = first_same (member_of m) method (body_of m) body e in
      let its : body_of m ≡ body = second_same (member_of m) method (body_of m) body e in
      record {
        its_offsets =
            ap (λ (b : Option Body). option_map_or (offsets_in place method) b []) is ∙ ap (λ (b : Body). offsets_in place method b) (sym its)
            ∙ ap (λ (x : Member). offsets_in place x (body_of m)) (sym same);
        its_code = ap (λ (b : Option Body). option_map_or (λ (body : Body). names place method) b false) is ∙ ap (names place) (sym same);
      }

  pub of_none : (found : Option MethodCode) → found ≡ None → option_map shown found ≡ option_map (with_body method) (classes.body_of trees method) → Says [] false
  of_none found none h = without (classes.body_of trees method) refl (sym (ap (option_map shown) none) ∙ h)

  pub of_some : (found : Option MethodCode) (m : MethodCode) → found ≡ Some m → option_map shown found ≡ option_map (with_body method) (classes.body_of trees method)
      → Says (offsets_in place (member_of m) (body_of m)) (names place (member_of m))
  of_some found m some h = within m (classes.body_of trees method) refl (sym (ap (option_map shown) some) ∙ h)

-- ---- loops over methods

pub one_more : (trees : Program) (place : PlaceOf) (methods : List Member) (number : ℕ) (points new : List Point) → number < length methods
    → points ≡ points_from trees place 0 (take number methods)
    → ((m : Member) → slice_get methods number ≡ Some m → new ≡ points ++ points_at number (offsets_of trees place m))
    → new ≡ points_from trees place 0 (take (number + 1) methods)
one_more trees place methods number points new less so_far adds =
    let it = there_is methods number less in
    let count : 0 + length (take number methods) ≡ number = omega (arith, length-take number methods, less) in
    adds it.0 it.1
    ∙ ap (λ l. l ++ points_at number (offsets_of trees place it.0)) so_far
    ∙ ap (λ n. points_from trees place 0 (take number methods) ++ points_at n (offsets_of trees place it.0)) (sym count)
    ∙ sym (one_method trees place 0 (take number methods) it.0)
    ∙ ap (points_from trees place 0) (sym (taken methods number it.0 less it.1))

pub none_more : (p : Member → Bool) (methods : List Member) (number : ℕ) → number < length methods → list_any p (take number methods) ≡ false
    → ((m : Member) → slice_get methods number ≡ Some m → false ≡ p m) → list_any p (take (number + 1) methods) ≡ false
none_more p methods number less none isnt =
    let it = there_is methods number less in
    ap (list_any p) (taken methods number it.0 less it.1) ∙ list_any-append p (take number methods) (it.0 ∷ [])
    ∙ ap (λ b. b || list_any p (it.0 ∷ [])) none ∙ ap (λ b. b || false) (sym (isnt it.0 it.1))

pub some_there : (p : Member → Bool) (methods : List Member) (number : ℕ) → number < length methods
    → ((m : Member) → slice_get methods number ≡ Some m → true ≡ p m) → true ≡ list_any p methods
some_there p methods number less is =
    let it = there_is methods number less in
    sym (list_any_at p methods number it.0 less (ap p (same_item methods number it.0 it.0 it.1) ∙ sym (is it.0 it.1)))

pub adds_by : (offsets : Member → List ℕ) (methods : List Member) (id number : ℕ) → id ≡ number → (points new : List Point)
    → ((m : Member) → slice_get methods id ≡ Some m → new ≡ points ++ points_at id (offsets m))
    → (m : Member) → slice_get methods number ≡ Some m → new ≡ points ++ points_at number (offsets m)
adds_by offsets methods id number same points new adds =
    subst (λ n. (m : Member) → slice_get methods n ≡ Some m → new ≡ points ++ points_at n (offsets m)) same adds
