-- Where the class of a type is missing that a text describes, one of the classes that the text names is.
use Rattle.std.proofs.Common.{◌≡◌, ℕ, zero, suc, List, [], ◌∷◌, ◌++◌, map, Option, Some, None, Bool, true, false, not, ◌||◌, ◌&&◌, cond, eqb, refl, sym, ap, ◌∙◌, subst}
use Rattle.std.specs.Prelude.{drop, length, nat_lt, ◌==◌}
use Rattle.std.specs.Option.{option_map_or}
use Rattle.std.specs.List.{list_any, list_all, filter_map}
use borrow.Author.Tests.{eqb-true}
use mathlib.Core.Bool.{or-false, and-false}
use Rattle.std.proofs.lemmas.Bool.{or_left, or_right}
use Rattle.model.specs.Names.{Name}
use Rattle.model.specs.Classes.{Program}
use Rattle.model.specs.ReferenceTypes.{ClassType}
use Rattle.model.specs.Descriptors.{ElementType, FieldType, MethodType, is_class_name, is_unqualified, names_of, with_first}
use Rattle.model.specs.Conditions.{is_class_or_array}
use Rattle.model.specs.Descriptors as element
use Rattle.model.specs.DescriptorScan.{◌>>=◌, dimensions_of, field_type, field_at, element_at, method_type}
use Rattle.model.specs.DescriptorParts.{class_of_element, classes_in, classes_named, method_types, return_types}
use Rattle.model.specs.DescribedTypes.{DeclaredType, DeclaredInt, DeclaredReference, array_of, declared_with, declared_of, field_declared, returned_type, parameters_declared, results_declared, reference_declared, type_named}
use Rattle.model.specs.Resolution.{is_missing}
use Rattle.types.specs.described_types.Described.{type_missing, declared_missing}
use Rattle.types.proofs.described_types.Arrays.{arrays_missing}

and_between : (a b : Bool) → (a && false && b) ≡ false
and_between true b = refl
and_between false b = refl

-- another reason may stand between two
pub or_beside : (a b c : Bool) → (a || c) ≡ true → (a || (b || c)) ≡ true
or_beside true b c h = refl
or_beside false true c h = refl
or_beside false false c h = h

-- ---- what begins as the descriptor of an array

no_name : (bytes : List ℕ) → is_class_name (91 ∷ bytes) ≡ false
no_name bytes = by (names_of bytes)
  where
    by : (names : List (List ℕ)) → list_all is_unqualified (with_first 91 names) ≡ false
    by [] = refl
    by (name ∷ names) = and_between (nat_lt 0 (suc (length name))) (list_all is_unqualified names)

-- a descriptor has the dimensions that come first
with_dimensions : (n : ℕ) (f : FieldType) (o : Option (ElementType × List ℕ)) (long : Bool)
    → (cond long None (o >>= (λ e. Some (record { dimensions = n; element = e.0 }, e.1))) >>= (λ (g : FieldType
    × List ℕ). cond (length g.1 == 0) (Some g.0) None)) ≡ Some f → f.dimensions ≡ n
with_dimensions n f None true h = absurd cc
with_dimensions n f None false h = absurd cc
with_dimensions n f (Some e) true h = absurd cc
with_dimensions n f (Some e) false h = by (length e.1 == 0) h
  where
    by : (b : Bool) → cond b (Some (record { dimensions = n; element = e.0 })) None ≡ Some f → f.dimensions ≡ n
    by true h = let same : record { dimensions = n; element = e.0 } ≡ f = cc in sym (ap (λ (g : FieldType). g.dimensions) same)
    by false h = absurd cc

its_dimensions : (text : List ℕ) (f : FieldType) → field_type text ≡ Some f → f.dimensions ≡ dimensions_of text
unfolding field_type field_at
its_dimensions text f h = with_dimensions (dimensions_of text) f (element_at (drop (dimensions_of text) text)) (nat_lt 255 (dimensions_of text)) h

no_int : (n : ℕ) (e : ElementType) → declared_with (suc n) e ≡ DeclaredInt → ⊥
no_int n e h = cc

-- where it is none, it stands for no class either
no_array : (b : ℕ) (bytes : List ℕ) → b ≡ 91 → field_declared (b ∷ bytes) ≡ DeclaredInt → not (is_class_or_array (b ∷ bytes)) ≡ true
no_array b bytes q e = by (field_type (b ∷ bytes)) refl e
  where
    array : (c : ℕ) → c ≡ 91 → (f : FieldType) → field_type (c ∷ bytes) ≡ Some f → declared_of f ≡ DeclaredInt → ⊥
    array c q f h e =
        let many : f.dimensions ≡ suc (dimensions_of bytes) = its_dimensions (c ∷ bytes) f h ∙ ap (λ n. dimensions_of (n ∷ bytes)) q in
        no_int (dimensions_of bytes) f.element (sym (ap (λ n. declared_with n f.element) many) ∙ e)

    by : (o : Option FieldType) → field_type (b ∷ bytes) ≡ o → option_map_or declared_of o DeclaredInt ≡ DeclaredInt
        → not (is_class_or_array (b ∷ bytes)) ≡ true
    by None h e =
        let named : is_class_name (b ∷ bytes) ≡ false = subst (λ (c : ℕ). is_class_name (c ∷ bytes) ≡ false) (sym q) (no_name bytes) in
        rw (named, h, and-false (eqb b 91)) refl
    by (Some f) h e = absurd (array b q f h e)

module _ (files : Program) where
  abbrev some_missing : List Name → Bool
  some_missing names = list_any (is_missing files) names

  abbrev named_in : List FieldType → List Name
  named_in fs = filter_map (λ (f : FieldType). class_of_element f.element) fs

  abbrev lacks : FieldType → Bool
  lacks f = declared_missing files (declared_of f)

  -- a type lacks its class where the class is not found
  by_element : (n : ℕ) (e : ElementType) → declared_missing files (declared_with n e)
      ≡ option_map_or (is_missing files) (class_of_element e) false
  by_element zero element.Byte = refl
  by_element zero element.Char = refl
  by_element zero element.Double = refl
  by_element zero element.Float = refl
  by_element zero element.Int = refl
  by_element zero element.Long = refl
  by_element zero (element.Object name) = refl
  by_element zero element.Short = refl
  by_element zero element.Boolean = refl
  by_element (suc n) element.Byte = arrays_missing files n (array_of element.Byte)
  by_element (suc n) element.Char = arrays_missing files n (array_of element.Char)
  by_element (suc n) element.Double = arrays_missing files n (array_of element.Double)
  by_element (suc n) element.Float = arrays_missing files n (array_of element.Float)
  by_element (suc n) element.Int = arrays_missing files n (array_of element.Int)
  by_element (suc n) element.Long = arrays_missing files n (array_of element.Long)
  by_element (suc n) (element.Object name) = arrays_missing files n (array_of (element.Object name))
  by_element (suc n) element.Short = arrays_missing files n (array_of element.Short)
  by_element (suc n) element.Boolean = arrays_missing files n (array_of element.Boolean)

  one_named : (o : Option Name) (names : List Name)
      → (option_map_or (is_missing files) o false || some_missing names) ≡ some_missing (option_map_or (λ name. name ∷ names) o names)
  one_named None names = refl
  one_named (Some name) names = refl

  named_first : (f : FieldType) (fs : List FieldType)
      → named_in (f ∷ fs) ≡ option_map_or (λ name. name ∷ named_in fs) (class_of_element f.element) (named_in fs)
  named_first f fs = by (class_of_element f.element) refl
    where
      by : (o : Option Name) → class_of_element f.element ≡ o
          → named_in (f ∷ fs) ≡ option_map_or (λ name. name ∷ named_in fs) o (named_in fs)
      by None e = rw e refl
      by (Some name) e = rw e refl

  by_types : (fs : List FieldType) → list_any lacks fs ≡ some_missing (named_in fs)
  by_types [] = refl
  by_types (f ∷ fs) =
      ap (λ b. b || list_any lacks fs) (by_element f.dimensions f.element)
      ∙ ap (λ b. option_map_or (is_missing files) (class_of_element f.element) false || b) (by_types fs)
      ∙ one_named (class_of_element f.element) (named_in fs)
      ∙ ap some_missing (sym (named_first f fs))

  -- ---- the descriptor of a field

  pub field_lacks : (d : Name) → declared_missing files (field_declared d) ≡ true → some_missing (classes_in d) ≡ true
  field_lacks d h = by (field_type d) refl
    where
      by : (o : Option FieldType) → field_type d ≡ o → some_missing (classes_in d) ≡ true
      by None e =
          let none : false ≡ true = sym (ap (λ o. declared_missing files (option_map_or declared_of o DeclaredInt)) e) ∙ h in
          absurd cc
      by (Some f) e =
          ap (λ o. some_missing (named_in (option_map_or (λ g. g ∷ []) o (option_map_or method_types (method_type d) [])))) e
          ∙ sym (by_types (f ∷ [])) ∙ or-false (lacks f) ∙ sym (ap (λ o. declared_missing files (option_map_or declared_of o DeclaredInt)) e) ∙ h

  -- ---- the descriptor of a method

  -- it begins with a bracket, as no descriptor of a field does
  after_bracket : (c : ℕ) (bytes : List ℕ) → c ≡ 40 → field_type (c ∷ bytes) ≡ None
  unfolding field_type field_at element_at
  after_bracket c bytes q = subst (λ (n : ℕ). field_type (n ∷ bytes) ≡ None) (sym q) refl

  no_field : (d : Name) (m : MethodType) → method_type d ≡ Some m → field_type d ≡ None
  unfolding method_type
  no_field [] m e = absurd cc
  no_field (b ∷ bytes) m e = by (eqb b 40) refl _ e
    where
      by : (v : Bool) → eqb b 40 ≡ v → (o : Option MethodType) → cond v o None ≡ Some m → field_type (b ∷ bytes) ≡ None
      by true q o h = after_bracket b bytes (eqb-true b 40 q)
      by false q o h = absurd cc

  declared_together : (ps : List FieldType) (r : Option FieldType)
      → list_any (declared_missing files) (map declared_of ps ++ returned_type r) ≡ list_any lacks (ps ++ return_types r)
  declared_together [] None = refl
  declared_together [] (Some f) = refl
  declared_together (p ∷ ps) r = ap (λ b. lacks p || b) (declared_together ps r)

  abbrev declared : Option MethodType → List DeclaredType
  declared o = option_map_or (λ (m : MethodType). map declared_of m.parameters) o [] ++ option_map_or (λ (m : MethodType). returned_type m.returns) o []

  pub method_lacks : (d : Name) → list_any (declared_missing files) (parameters_declared d ++ results_declared d) ≡ true
      → some_missing (classes_in d) ≡ true
  method_lacks d h = by (method_type d) refl
    where
      by : (o : Option MethodType) → method_type d ≡ o → some_missing (classes_in d) ≡ true
      by None e =
          let none : false ≡ true = sym (ap (λ o. list_any (declared_missing files) (declared o)) e) ∙ h in
          absurd cc
      by (Some m) e =
          ap (λ o. some_missing (named_in (option_map_or (λ g. g ∷ []) o (option_map_or method_types (method_type d) [])))) (no_field d m e)
          ∙ ap (λ o. some_missing (named_in (option_map_or method_types o []))) e
          ∙ sym (by_types (method_types m)) ∙ sym (declared_together m.parameters m.returns)
          ∙ sym (ap (λ o. list_any (declared_missing files) (declared o)) e) ∙ h

  -- ---- a class constant

  pub name_lacks : (name : Name) → type_missing files (type_named name) ≡ true
      → (some_missing (classes_named name) || not (is_class_or_array name)) ≡ true
  name_lacks [] h = or_left (some_missing ([] ∷ [])) _ (or-false (is_missing files []) ∙ h)
  name_lacks (b ∷ bytes) h = by (eqb b 91) refl h
    where
      stands : b ≡ 91 → (t : DeclaredType) → field_declared (b ∷ bytes) ≡ t → type_missing files (reference_declared (b ∷ bytes) t) ≡ true
          → (some_missing (classes_in (b ∷ bytes)) || not (is_class_or_array (b ∷ bytes))) ≡ true
      stands q DeclaredInt e h = or_right (some_missing (classes_in (b ∷ bytes))) _ (no_array b bytes q e)
      stands q (DeclaredReference t) e h = or_left (some_missing (classes_in (b ∷ bytes))) _ (field_lacks (b ∷ bytes) (ap (declared_missing files) e ∙ h))

      by : (v : Bool) → eqb b 91 ≡ v → type_missing files (cond v (reference_declared (b
          ∷ bytes) (field_declared (b ∷ bytes))) (ClassType (b ∷ bytes))) ≡ true
          → (some_missing (cond v (classes_in (b ∷ bytes)) ((b ∷ bytes) ∷ [])) || not (is_class_or_array (b ∷ bytes))) ≡ true
      by true q h = stands (eqb-true b 91 q) (field_declared (b ∷ bytes)) refl h
      by false q h = or_left (some_missing ((b ∷ bytes) ∷ [])) _ (or-false (is_missing files (b ∷ bytes)) ∙ h)
