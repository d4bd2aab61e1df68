-- Where no class that a descriptor or a class constant names is missing, no type of it is.
use Rattle.std.proofs.Common.{◌≡◌, ℕ, zero, suc, List, [], ◌∷◌, ◌++◌, map, cond, Bool, true, false, ◌||◌, ◌&&◌, Option, Some, None, refl, sym, ap, ◌∙◌}
use Rattle.std.specs.Prelude.{◌==◌, is_some, nat_lt, length, drop}
use Rattle.std.specs.Option.{option_map_or}
use Rattle.std.specs.List.{list_any, list_all, filter_map, cons_option}
use Rattle.std.proofs.lemmas.Bool.{false≢true, or_parts, or_from, and_parts, eqb-true}
use Rattle.model.specs.Names.{Name}
use Rattle.model.specs.Classes.{Program}
use Rattle.model.specs.Descriptors.{ElementType, Byte, Char, Double, Float, Int, Long, Object, Short, Boolean, FieldType, MethodType, names_of, with_first, is_unqualified, is_class_name}
use Rattle.model.specs.DescriptorScan.{◌>>=◌, element_at, field_at, field_type, method_type, dimensions_of, is_field_descriptor}
use Rattle.model.specs.DescriptorParts.{return_types, method_types, types_in, class_of_element, classes_in, classes_named}
use Rattle.model.specs.Conditions.{begins_with, is_class_or_array}
use Rattle.model.specs.ReferenceTypes.{ClassType}
use Rattle.model.specs.DescribedTypes.{DeclaredInt, reference_declared, declared_with, declared_of, returned_type, field_declared, parameters_declared, results_declared, type_named}
use Rattle.model.specs.Resolution.{is_missing}
use Rattle.types.specs.described_types.Described.{type_missing, declared_missing}
use Rattle.types.proofs.described_types.Arrays.{declared_class, arrays_missing}

module _ (files : Program) where
  abbrev classes_of_types : List FieldType → List Name
  classes_of_types fs = filter_map (λ (f : FieldType). class_of_element f.element) fs

  primitive_found : (n : ℕ) (e : ElementType) → class_of_element e ≡ None → declared_missing files (declared_with n e) ≡ false
  primitive_found zero Byte h = refl
  primitive_found zero Char h = refl
  primitive_found zero Double h = refl
  primitive_found zero Float h = refl
  primitive_found zero Int h = refl
  primitive_found zero Long h = refl
  primitive_found zero (Object name) h = absurd cc
  primitive_found zero Short h = refl
  primitive_found zero Boolean h = refl
  primitive_found (suc n) Byte h = arrays_missing files n _
  primitive_found (suc n) Char h = arrays_missing files n _
  primitive_found (suc n) Double h = arrays_missing files n _
  primitive_found (suc n) Float h = arrays_missing files n _
  primitive_found (suc n) Int h = arrays_missing files n _
  primitive_found (suc n) Long h = arrays_missing files n _
  primitive_found (suc n) (Object name) h = absurd cc
  primitive_found (suc n) Short h = arrays_missing files n _
  primitive_found (suc n) Boolean h = arrays_missing files n _

  class_found : (n : ℕ) (name : Name) → is_missing files name ≡ false → declared_missing files (declared_with n (Object name)) ≡ false
  class_found n name h = ap (declared_missing files) (declared_class n name) ∙ arrays_missing files n (ClassType name) ∙ h

  one_of : (n : ℕ) (e : ElementType) (rest : List Name) → list_any (is_missing files) (cons_option (class_of_element e) rest) ≡ false
      → (declared_missing files (declared_with n e) ≡ false) × (list_any (is_missing files) rest ≡ false)
  one_of n Byte rest h = (primitive_found n Byte refl, h)
  one_of n Char rest h = (primitive_found n Char refl, h)
  one_of n Double rest h = (primitive_found n Double refl, h)
  one_of n Float rest h = (primitive_found n Float refl, h)
  one_of n Int rest h = (primitive_found n Int refl, h)
  one_of n Long rest h = (primitive_found n Long refl, h)
  one_of n (Object name) rest h = let p = or_parts (is_missing files name) _ h in (class_found n name p.0, p.1)
  one_of n Short rest h = (primitive_found n Short refl, h)
  one_of n Boolean rest h = (primitive_found n Boolean refl, h)

  pub types_found : (fs : List FieldType) → list_any (is_missing files) (classes_of_types fs) ≡ false
      → list_any (declared_missing files) (map declared_of fs) ≡ false
  types_found [] h = refl
  types_found (f ∷ fs) h = let found = one_of f.dimensions f.element (classes_of_types fs) h in or_from _ _ found.0 (types_found fs found.1)

  -- ---- descriptors of fields

  pub field_found : (d : Name) → list_any (is_missing files) (classes_in d) ≡ false → declared_missing files (field_declared d) ≡ false
  field_found d h = by (field_type d) refl
    where
      by : (o : Option FieldType) → field_type d ≡ o → declared_missing files (field_declared d) ≡ false
      by None e = ap (λ o. declared_missing files (option_map_or declared_of o DeclaredInt)) e
      by (Some f) e =
          ap (λ o. declared_missing files (option_map_or declared_of o DeclaredInt)) e
          ∙ (one_of f.dimensions f.element [] (sym (ap (λ o. list_any (is_missing files) (classes_of_types (option_map_or (λ f. f ∷ []) o (option_map_or method_types (method_type d) [])))) e) ∙ h)).0

-- ---- descriptors of methods

begins_method : (b : ℕ) (bytes : List ℕ) (m : MethodType) → method_type (b ∷ bytes) ≡ Some m → b ≡ 40
unfolding method_type
begins_method b bytes m e = by (b == 40) _ refl e
  where
    by : (c : Bool) (o : Option MethodType) → (b == 40) ≡ c → cond c o None ≡ Some m → b ≡ 40
    by true o q e = eqb-true b 40 q
    by false o q e = absurd cc

no_field_at : (bytes : List ℕ) → field_type (40 ∷ bytes) ≡ None
unfolding field_type field_at element_at
no_field_at bytes = refl

no_method : (m : MethodType) → method_type [] ≡ Some m → ⊥
unfolding method_type
no_method m e = cc

no_field : (d : Name) (m : MethodType) → method_type d ≡ Some m → field_type d ≡ None
no_field [] m e = absurd (no_method m e)
no_field (b ∷ bytes) m e = ap (λ c. field_type (c ∷ bytes)) (begins_method b bytes m e) ∙ no_field_at bytes

module _ (files : Program) where
  -- the parameters and what is returned, in one list
  together : (ps : List FieldType) (r : Option FieldType) → map declared_of (ps ++ return_types r) ≡ map declared_of ps ++ returned_type r
  together [] None = refl
  together [] (Some f) = refl
  together (p ∷ ps) r = ap (λ l. declared_of p ∷ l) (together ps r)

  pub method_found : (d : Name) → list_any (is_missing files) (classes_in d) ≡ false
      → list_any (declared_missing files) (parameters_declared d ++ results_declared d) ≡ false
  method_found d h = by (method_type d) refl
    where
      by : (o : Option MethodType) → method_type d ≡ o
          → list_any (declared_missing files) (parameters_declared d ++ results_declared d) ≡ false
      by None e = ap (λ o. list_any (declared_missing files) (option_map_or (λ (m : MethodType). map declared_of m.parameters) o [] ++ option_map_or (λ (m : MethodType). returned_type m.returns) o [])) e
      by (Some m) e =
          let types : types_in d ≡ method_types m = ap (λ o. option_map_or (λ f. f ∷ []) o (option_map_or method_types (method_type d) [])) (no_field d m e) ∙ ap (λ o. option_map_or method_types o []) e in
          ap (λ o. list_any (declared_missing files) (option_map_or (λ (m : MethodType). map declared_of m.parameters) o [] ++ option_map_or (λ (m : MethodType). returned_type m.returns) o [])) e
          ∙ ap (list_any (declared_missing files)) (sym (together m.parameters m.returns))
          ∙ types_found files (method_types m) (sym (ap (λ fs. list_any (is_missing files) (classes_of_types files fs)) types) ∙ h)

-- ---- class constants

-- a descriptor of an array is no name of a class
no_class_name : (b : ℕ) (bytes : List ℕ) → (b == 91) ≡ true → is_class_name (b ∷ bytes) ≡ false
no_class_name b bytes h = let e = eqb-true b 91 h in ap (λ c. is_class_name (c ∷ bytes)) e ∙ by (names_of bytes)
  where
    neither : (x y : Bool) → ((x && false) && y) ≡ false
    neither true y = refl
    neither false y = refl

    by : (names : List (List ℕ)) → list_all is_unqualified (with_first 91 names) ≡ false
    by [] = neither (nat_lt 0 1) true
    by (name ∷ names) = neither (nat_lt 0 (length (91 ∷ name))) (list_all is_unqualified names)

-- what reading gives, with so many dimensions
abbrev read_with : ℕ → ElementType × List ℕ → FieldType × List ℕ
read_with n e = (record { dimensions = n; element = e.0 }, e.1)

dimensions_read : (n : ℕ) (t : Bool) (o : Option (ElementType × List ℕ)) (f : FieldType)
    → (cond t None (o >>= (λ e. Some (read_with n e))) >>= (λ f. cond (length f.1 == 0) (Some f.0) None)) ≡ Some f → f.dimensions ≡ n
dimensions_read n true o f e = absurd cc
dimensions_read n false None f e = absurd cc
dimensions_read n false (Some x) f e = by (length x.1 == 0) e
  where
    some_same : (a b : FieldType) → Some a ≡ Some b → a ≡ b
    some_same a b e = cc

    by : (c : Bool) → cond c (Some (read_with n x).0) None ≡ Some f → f.dimensions ≡ n
    by true e = sym (ap (λ (f : FieldType). f.dimensions) (some_same (read_with n x).0 f e))
    by false e = absurd cc

dimensions_said : (d : Name) (f : FieldType) → field_type d ≡ Some f → f.dimensions ≡ dimensions_of d
unfolding field_type field_at
dimensions_said d f e = dimensions_read (dimensions_of d) (nat_lt 255 (dimensions_of d)) (element_at (drop (dimensions_of d) d)) f e

module _ (files : Program) where
  reference_found : (name : Name) (n : ℕ) (e : ElementType) → declared_missing files (declared_with (suc n) e) ≡ false
      → type_missing files (reference_declared name (declared_with (suc n) e)) ≡ false
  reference_found name n e h = h

  array_found : (name : Name) (n : ℕ) (f : FieldType) → field_type name ≡ Some f → f.dimensions ≡ suc n
      → list_any (is_missing files) (classes_in name) ≡ false → type_missing files (reference_declared name (field_declared name)) ≡ false
  array_found name n f e q h =
      let declared : field_declared name ≡ declared_with (suc n) f.element = ap (λ o. option_map_or declared_of o DeclaredInt) e ∙ ap (λ k. declared_with k f.element) q in
      ap (λ d. type_missing files (reference_declared name d)) declared ∙ reference_found name n f.element (sym (ap (declared_missing files) declared) ∙ field_found files name h)

  pub named_found : (name : Name) → is_class_or_array name ≡ true → list_any (is_missing files) (classes_named name) ≡ false
      → type_missing files (type_named name) ≡ false
  named_found [] c h = (or_parts (is_missing files []) _ h).0
  named_found (b ∷ bytes) c h = by (b == 91) refl
    where
      by : (t : Bool) → (b == 91) ≡ t → type_missing files (type_named (b ∷ bytes)) ≡ false
      by false e =
          ap (λ t. type_missing files (cond t (reference_declared (b ∷ bytes) (field_declared (b ∷ bytes))) (ClassType (b ∷ bytes)))) e
          ∙ (or_parts (is_missing files (b ∷ bytes)) _ (sym (ap (λ t. list_any (is_missing files) (cond t (classes_in (b ∷ bytes)) ((b ∷ bytes) ∷ []))) e) ∙ h)).0
      by true e =
          let described = sym (ap (λ t. t || (begins_with 91 (b ∷ bytes) && is_field_descriptor (b ∷ bytes))) (no_class_name b bytes e)) ∙ c in
          let f = some_at (field_type (b ∷ bytes)) (and_parts (begins_with 91 (b ∷ bytes)) _ described).1 in
          let n : f.0.dimensions ≡ suc (dimensions_of bytes) = dimensions_said (b ∷ bytes) f.0 f.1 ∙ ap (λ t. cond t (suc (dimensions_of bytes)) 0) e in
          ap (λ t. type_missing files (cond t (reference_declared (b ∷ bytes) (field_declared (b ∷ bytes))) (ClassType (b ∷ bytes)))) e
          ∙ array_found (b ∷ bytes) (dimensions_of bytes) f.0 f.1 n (sym (ap (λ t. list_any (is_missing files) (cond t (classes_in (b ∷ bytes)) ((b ∷ bytes) ∷ []))) e) ∙ h)
        where
          some_at : (o : Option FieldType) → is_some o ≡ true → (f : FieldType) × (o ≡ Some f)
          some_at None h = absurd (false≢true h)
          some_at (Some f) h = (f, refl)
