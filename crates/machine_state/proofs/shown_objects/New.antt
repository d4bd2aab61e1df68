-- A new object of a class, whose fields are 0 or null.
use Rattle.std.proofs.Common.{◌≡◌, ℕ, List, [], ◌∷◌, Bool, true, false, if◌then◌else◌, map, length, replicate, refl, sym, ap, subst, ◌∙◌}
use Rattle.std.specs.List.{filter}
use Rattle.std.proofs.lemmas.List.{length-map}
use Rattle.std.proofs.lemmas.List.Elements.{All-nil}
use Rattle.model.specs.HiddenMembers.{is_cell}
use Rattle.model.specs.Names.{Name, Member, name_eq, java_lang_string}
use Rattle.model.specs.Classes.{Program}
use Rattle.model.specs.DescribedTypes.{DeclaredType, DeclaredInt, DeclaredReference, field_declared}
use Rattle.model.specs.Lookup.{instance_fields}
use Rattle.model.specs.Operands.{words}
use Rattle.model.specs.Opening.{first_value, with_first, new_instance}
use Rattle.model.specs.State.{ObjectOf, Instance, Characters}
use Rattle.model.specs.Worlds.{fields_of, cells_of}
use Rattle.run_laws.proofs.laws.Classes.{names_same}
use Rattle.heap.specs.declared.kind.ObjectKind.TheVariants as kind
use Rattle.heap.specs.Heap.{fresh}
use Rattle.linked_code.specs.declared.types.LinkedType.{LinkedType}
use Rattle.linked_code.specs.Numbers.{IsClassAt}
use Rattle.machine_state.specs.shown_objects.Shown.{names_of, words_in, ShowsObject}
use Rattle.machine_state.proofs.shown_objects.Cells.{cells_named}
use Rattle.machine_state.proofs.shown_objects.Strings.{string_fields}

first_zero : (d : DeclaredType) → first_value words d ≡ 0
first_zero DeclaredInt = refl
first_zero (DeclaredReference type) = refl

first_names : (fields : List Member) → names_of (map (with_first words) fields) ≡ fields
first_names [] = refl
first_names (f ∷ fields) = ap (λ l. f ∷ l) (first_names fields)

first_words : (fields : List Member) → replicate (length fields) 0 ≡ words_in (map (with_first words) fields)
first_words [] = refl
first_words (f ∷ fields) = ap (λ l. 0 ∷ l) (first_words fields) ∙ ap (λ w. w ∷ words_in (map (with_first words) fields)) (sym (first_zero (field_declared f.descriptor)))

module _ (files : Program) (class : Name) where
  abbrev members : List Member
  members = instance_fields files class

  -- by whether it is String
  abbrev made : Bool → ObjectOf ℕ
  made string = if string then Characters [] else Instance class (map (with_first words) members)

  none_of_string : name_eq class java_lang_string ≡ true → members ≡ []
  none_of_string e = ap (instance_fields files) (names_same class java_lang_string e) ∙ string_fields files

  pub new_fields : length (fields_of (new_instance words files class)) ≡ length members
  new_fields = by (name_eq class java_lang_string) refl
    where
      by : (string : Bool) → name_eq class java_lang_string ≡ string → length (fields_of (made string)) ≡ length members
      by true e = sym (ap length (none_of_string e))
      by false e = length-map members (with_first words)

  -- the fields that count are those of the class
  pub new_cells : cells_of (new_instance words files class) ≡ length (filter is_cell members)
  new_cells = by (name_eq class java_lang_string) refl
    where
      by : (string : Bool) → name_eq class java_lang_string ≡ string → cells_of (made string) ≡ length (filter is_cell members)
      by true e = sym (ap (λ names. length (filter is_cell names)) (none_of_string e))
      by false e = cells_named (map (with_first words) members) ∙ ap (λ names. length (filter is_cell names)) (first_names members)

  pub new_shown : (components : List LinkedType) (number count : ℕ) → IsClassAt files number class → count ≡ length members
      → ShowsObject files components (fresh (kind.Instance number) count) (new_instance words files class)
  new_shown components number count at counted = by (name_eq class java_lang_string) refl
    where
      by : (string : Bool) → name_eq class java_lang_string ≡ string
          → ShowsObject files components (fresh (kind.Instance number) count) (made string)
      by true e =
          record {
            kind = (subst (IsClassAt files number) (names_same class java_lang_string e) at, All-nil _);
            words = ap (λ n. replicate n 0) (counted ∙ ap length (none_of_string e));
          }
      by false e = record { kind = (at, first_names members, e); words = ap (λ n. replicate n 0) counted ∙ first_words members }
