-- The types of parameters and of a result.
use Rattle.std.proofs.Common.{◌≡◌, List, [], ◌∷◌, ◌++◌, map, Option, Some, None, Bool, true, false, ◌||◌, refl, sym, ap, ◌∙◌, subst}
use Rattle.std.specs.List.{list_any}
use Rattle.std.proofs.lemmas.Bool.{or_left, or_from}
use Rattle.std.proofs.lemmas.List.Folds.{list_any-append}
use Rattle.model.specs.Classes.{Program}
use Rattle.model.specs.Descriptors.{FieldType}
use Rattle.model.specs.DescribedTypes.{declared_of, returned_type, verification_type}
use Rattle.constant_pool.specs.declared.descriptors.field.Field as declared_field
use Rattle.constant_pool.specs.descriptors.View.{field_of}
use Rattle.types.specs.described_types.Described.{Gives, declared_missing}

module _ {X Y : Type 0} (view : X → Y) (missing : Bool) (wanted : Y) (o : Option X) where
  pub none_of : Gives view missing wanted o → o ≡ None → missing ≡ true
  none_of h e = let P : Option X → Type 0 = Gives view missing wanted in subst P e h

  pub some_of : (x : X) → Gives view missing wanted o → o ≡ Some x → (view x ≡ wanted) × (missing ≡ false)
  some_of x h e = let P : Option X → Type 0 = Gives view missing wanted in subst P e h

module _ (files : Program) where
  pub all_types : (fs : List declared_field.Field) (ps : List FieldType) → map field_of fs ≡ ps
      → map (λ f. verification_type files (declared_of (field_of f))) fs ≡ map (verification_type files) (map declared_of ps)
  all_types fs ps e = nested fs ∙ ap (λ l. map (verification_type files) (map declared_of l)) e
    where
      nested : (fs : List declared_field.Field)
          → map (λ f. verification_type files (declared_of (field_of f))) fs
          ≡ map (verification_type files) (map declared_of (map field_of fs))
      nested [] = refl
      nested (f ∷ fs) = ap (λ l. verification_type files (declared_of (field_of f)) ∷ l) (nested fs)

  pub any_missing : (fs : List declared_field.Field) (ps : List FieldType) → map field_of fs ≡ ps
      → list_any (λ f. declared_missing files (declared_of (field_of f))) fs ≡ list_any (declared_missing files) (map declared_of ps)
  any_missing fs ps e = nested fs ∙ ap (λ l. list_any (declared_missing files) (map declared_of l)) e
    where
      nested : (fs : List declared_field.Field)
          → list_any (λ f. declared_missing files (declared_of (field_of f))) fs
          ≡ list_any (declared_missing files) (map declared_of (map field_of fs))
      nested [] = refl
      nested (f ∷ fs) = ap (λ b. declared_missing files (declared_of (field_of f)) || b) (nested fs)

  -- ---- parameters, then what is returned

  abbrev missing_in : List FieldType → Option FieldType → Bool
  missing_in ps r = list_any (declared_missing files) (map declared_of ps ++ returned_type r)

  both : (ps : List FieldType) (r : Option FieldType)
      → missing_in ps r ≡ (list_any (declared_missing files) (map declared_of ps) || list_any (declared_missing files) (returned_type r))
  both ps r = list_any-append (declared_missing files) (map declared_of ps) (returned_type r)

  pub parameter_missing : (ps : List FieldType) (r : Option FieldType) → list_any (declared_missing files) (map declared_of ps) ≡ true
      → list_any (declared_missing files) (map declared_of ps ++ returned_type r) ≡ true
  parameter_missing ps r h = both ps r ∙ or_left (list_any (declared_missing files) (map declared_of ps)) (list_any (declared_missing files) (returned_type r)) h

  pub void_found : (ps : List FieldType) (r : Option FieldType) → list_any (declared_missing files) (map declared_of ps) ≡ false → None ≡ r
      → list_any (declared_missing files) (map declared_of ps ++ returned_type r) ≡ false
  void_found ps r h e = both ps r ∙ or_from (list_any (declared_missing files) (map declared_of ps)) (list_any (declared_missing files) (returned_type r)) h (ap (λ r. list_any (declared_missing files) (returned_type r)) (sym e))

  pub result_found : (ps : List FieldType) (r : Option FieldType) (f : FieldType)
      → list_any (declared_missing files) (map declared_of ps) ≡ false → Some f ≡ r → declared_missing files (declared_of f) ≡ false
      → list_any (declared_missing files) (map declared_of ps ++ returned_type r) ≡ false
  result_found ps r f h e n =
      both ps r
      ∙ or_from (list_any (declared_missing files) (map declared_of ps)) (list_any (declared_missing files) (returned_type r)) h
      (ap (λ r. list_any (declared_missing files) (returned_type r)) (sym e) ∙ or_from (declared_missing files (declared_of f)) false n refl)
