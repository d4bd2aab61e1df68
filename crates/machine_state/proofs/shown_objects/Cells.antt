-- How many cells objects have: as many as before, where a field or an element is put.
use Rattle.std.proofs.Common.{◌≡◌, ℕ, zero, suc, ◌+◌, List, [], ◌∷◌, Some, Bool, true, false, cond, length, map, refl, sym, ap, ◌∙◌}
use Rattle.std.specs.Prelude.{slice_get, slice_set, sum_by}
use Rattle.std.specs.List.{filter}
use Rattle.std.proofs.lemmas.List.{length-map, length-set}
use Rattle.std.proofs.lemmas.List.Sums.{sum_by-cons}
use Rattle.model.specs.Names.{Name, Member}
use Rattle.model.specs.HiddenMembers.{is_cell}
use Rattle.model.specs.State.{ObjectOf, Instance, Primitives, References, Characters}
use Rattle.model.specs.Worlds.{is_cell_field, cells_of, with_value, with_field, with_element}
use Rattle.model.specs.Words.{map_field, map_object}
use Rattle.machine_state.specs.shown_objects.Shown.{names_of}
use Rattle.machine_state.specs.shown_objects.Laws.{CountsSame}
use Rattle.machine_state.proofs.shown_objects.Slots.{with_names}

-- ---- of one object

-- fields count by their names
pub cells_named : (fields : List (Member × ℕ)) → length (filter is_cell_field fields) ≡ length (filter is_cell (names_of fields))
cells_named [] = refl
cells_named (f ∷ fields) = by (cells_named fields) (is_cell f.0)
  where
    by : length (filter is_cell_field fields) ≡ length (filter is_cell (names_of fields))
        → (b : Bool) → length (cond b (f ∷ filter is_cell_field fields) (filter is_cell_field fields))
        ≡ length (cond b (f.0 ∷ filter is_cell (names_of fields)) (filter is_cell (names_of fields)))
    by rest true = ap suc rest
    by rest false = rest

-- whatever their values are
cells_mapped : {A B : Type 0} (to : A → B) (fields : List (Member × A))
    → length (filter is_cell_field (map (map_field to) fields)) ≡ length (filter is_cell_field fields)
cells_mapped to [] = refl
cells_mapped to (f ∷ fields) = by (cells_mapped to fields) (is_cell f.0)
  where
    by : length (filter is_cell_field (map (map_field to) fields)) ≡ length (filter is_cell_field fields)
        → (b : Bool) → length (cond b (map_field to f ∷ filter is_cell_field (map (map_field to) fields)) (filter is_cell_field (map (map_field to) fields)))
        ≡ length (cond b (f ∷ filter is_cell_field fields) (filter is_cell_field fields))
    by rest true = ap suc rest
    by rest false = rest

pub object_cells : {A B : Type 0} (to : A → B) (object : ObjectOf A) → cells_of (map_object to object) ≡ cells_of object
object_cells to (Instance class fields) = cells_mapped to fields
object_cells to (Primitives of elements) = length-map elements to
object_cells to (References of elements) = length-map elements to
object_cells to (Characters text) = refl

pub field_cells : (class : Name) (fields : List (Member × ℕ)) (field : Member) (word : ℕ)
    → cells_of (with_field field word (Instance class fields)) ≡ cells_of (Instance class fields)
field_cells class fields field word =
    cells_named (with_value field word fields) ∙ ap (λ names. length (filter is_cell names)) (with_names field word fields) ∙ sym (cells_named fields)

pub element_cells : (object : ObjectOf ℕ) (index word : ℕ) → cells_of (with_element index word object) ≡ cells_of object
element_cells (Instance class fields) index word = refl
element_cells (Primitives of elements) index word = length-set elements index word
element_cells (References of elements) index word = length-set elements index word
element_cells (Characters text) index word = refl

-- ---- of all

all_same : (objects : List (ObjectOf ℕ)) (r : ℕ) (old new : ObjectOf ℕ) → slice_get objects r ≡ Some old → cells_of new ≡ cells_of old
    → sum_by cells_of (slice_set objects r new) ≡ sum_by cells_of objects
all_same [] r old new e same = absurd cc
all_same (o ∷ objects) zero old new e same =
    let is : o ≡ old = cc in
    sum_by-cons cells_of new objects ∙ ap (λ k. k + sum_by cells_of objects) (same ∙ ap cells_of (sym is)) ∙ sym (sum_by-cons cells_of o objects)
all_same (o ∷ objects) (suc r) old new e same =
    sum_by-cons cells_of o (slice_set objects r new) ∙ ap (λ k. cells_of o + k) (all_same objects r old new e same) ∙ sym (sum_by-cons cells_of o objects)

pub counts_same : (objects : List (ObjectOf ℕ)) (r : ℕ) (old new : ObjectOf ℕ) → slice_get objects r ≡ Some old → cells_of new ≡ cells_of old
    → CountsSame objects r new
counts_same objects r old new e same zero = all_same objects r old new e same
counts_same [] r old new e same (suc n) = absurd cc
counts_same (o ∷ objects) zero old new e same (suc n) = refl
counts_same (o ∷ objects) (suc r) old new e same (suc n) = counts_same objects r old new e same n
