-- Units of a String that become elements of an array: in a heap, and in the world that it shows.
use Rattle.std.proofs.Common.{◌≡◌, ◌<◌, ◌≤◌, ◌+◌, ◌-◌, ◌^◌, ℕ, zero, suc, List, [], ◌∷◌, ◌++◌, Option, Some, None, true, length, map, take, drop, refl, sym, ap, subst, arith, ◌∙◌}
use Rattle.std.specs.Prelude.{slice_get, slice_index, slice_index_or, slice_set, sum_by}
use Rattle.std.proofs.Math.Nat.{mod-eq_of_lt}
use Rattle.std.proofs.lemmas.List.{get_or-drop, length-drop, length-take-le, set-get_or, set-set, take_more}
use Rattle.std.proofs.lemmas.List.Elements.{All-head, All-tail}
use Rattle.std.proofs.lemmas.Option.{get_or_from_slice_get}
use Rattle.model.specs.Classes.{Program}
use Rattle.model.specs.LimitStands.{Bounds, opening_count}
use Rattle.model.specs.Operands.{words}
use Rattle.model.specs.ReferenceTypes.{Char}
use Rattle.model.specs.State.{ObjectOf, Instance, Primitives, References, Characters, WorldOf}
use Rattle.model.specs.TextMethods.{char_value, with_units_at}
use Rattle.model.specs.Texts.{Text}
use Rattle.model.specs.Worlds.{cells_of, elements_of, kept, no_object, object_at, with_element, with_elements, with_object}
use Rattle.heap.specs.Heap.{Object, changed, put_field, with_word, word_at, words_at, words_of}
use Rattle.linked_code.specs.declared.program.LinkedProgram.{LinkedProgram}
use Rattle.linked_code.specs.declared.types.LinkedType.{LinkedType}
use Rattle.machine_state.specs.declared.state.Shared.{Shared}
use Rattle.machine_state.specs.Shown.{Represents}
use Rattle.machine_state.specs.shown_objects.Laws.{is_array}
use Rattle.machine_state.specs.shown_objects.Shown.{AreUnits, ShowsObjects}
use Rattle.machine_state.proofs.class_initialisation.Setting.{set_elsewhere}
use Rattle.machine_state.proofs.shown_objects.Cells.{counts_same, element_cells}
use Rattle.machine_state.proofs.shown_objects.Objects.{element_put}
use Rattle.machine_state.proofs.thread_bursts.Events.{get_set_at}
use Rattle.machine_instructions.specs.thread_methods.TextWrites.{with_units}

-- ---- in a heap

-- one unit more
units_more : (objects : List Object) (array index : ℕ) (units : Text) (unit : ℕ)
    → with_units objects array index (units ++ unit ∷ []) ≡ put_field (with_units objects array index units) array (index + length units) unit
units_more objects array index [] unit = let at : index ≡ index + 0 = omega arith in ap (λ n. put_field objects array n unit) at
units_more objects array index (first ∷ units) unit =
    let at : index + 1 + length units ≡ index + suc (length units) = omega arith in
    units_more (put_field objects array index first) array (index + 1) units unit
    ∙ ap (λ n. put_field (with_units (put_field objects array index first) array (index + 1) units) array n unit) at

-- another object stays
put_elsewhere : (objects : List Object) (array index word string : ℕ) → (string ≡ array → ⊥)
    → slice_get (put_field objects array index word) string ≡ slice_get objects string
put_elsewhere objects array index word string apart = by (slice_get objects array)
  where
    by : (found : Option Object) → slice_get (changed objects array (with_word index word) found) string ≡ slice_get objects string
    by None = refl
    by (Some object) = set_elsewhere objects array string (with_word index word object) (λ same. apart (sym same))

units_elsewhere : (objects : List Object) (array index : ℕ) (units : Text) (string : ℕ) → (string ≡ array → ⊥)
    → slice_get (with_units objects array index units) string ≡ slice_get objects string
units_elsewhere objects array index [] string apart = refl
units_elsewhere objects array index (unit ∷ units) string apart =
    units_elsewhere (put_field objects array index unit) array (index + 1) units string apart ∙ put_elsewhere objects array index unit string apart

-- so many of the units of a String from one on are there, and the next one is put behind them
pub stores_next : (objects : List Object) (string begin array index done : ℕ) → (string ≡ array → ⊥) → begin + done < length (words_at objects string)
    → (unit : ℕ) → unit ≡ word_at (with_units objects array index (take done (drop begin (words_at objects string)))) string (begin + done)
    → put_field (with_units objects array index (take done (drop begin (words_at objects string)))) array (index + done) unit
    ≡ with_units objects array index (take (done + 1) (drop begin (words_at objects string)))
stores_next objects string begin array index done apart below unit read =
    ap (λ n. put_field before array (index + n) unit) (sym as_many)
    ∙ (sym (units_more objects array index (take done rest) unit) ∙ ap (with_units objects array index) (sym one_more))
  where
    rest : Text
    rest = drop begin (words_at objects string)

    before : List Object
    before = with_units objects array index (take done rest)

    within : done < length rest
    within = let left = length-drop begin (words_at objects string) in omega (arith, left, below)

    as_many : length (take done rest) ≡ done
    as_many = length-take-le done rest (omega (arith, within))

    unit_is : unit ≡ slice_index rest done
    unit_is =
        read ∙ ap (λ found. slice_index (words_of found) (begin + done)) (units_elsewhere objects array index (take done rest) string apart)
        ∙ sym (get_or-drop begin (words_at objects string) done 0)

    one_more : take (done + 1) rest ≡ take done rest ++ unit ∷ []
    one_more = take_more rest done 0 within ∙ ap (λ u. take done rest ++ u ∷ []) (sym unit_is)

-- ---- in the world

still_array : (m : ObjectOf ℕ) (index value : ℕ) → is_array m ≡ true → is_array (with_element index value m) ≡ true
still_array (Instance class fields) index value is = is
still_array (Primitives of elements) index value is = refl
still_array (References of elements) index value is = refl
still_array (Characters text) index value is = is

units_cells : (values : List ℕ) (index : ℕ) (m : ObjectOf ℕ) → cells_of (with_elements index values m) ≡ cells_of m
units_cells [] index m = refl
units_cells (value ∷ values) index m = units_cells values (index + 1) (with_element index value m) ∙ element_cells m index value

set_same : (ms : List (ObjectOf ℕ)) (r : ℕ) (m : ObjectOf ℕ) → slice_get ms r ≡ Some m → slice_set ms r m ≡ ms
set_same ms r m there = ap (slice_set ms r) (sym (get_or_from_slice_get ms r m no_object there)) ∙ set-get_or ms r no_object

-- each unit is a char
units_shown : (trees : Program) (components : List LinkedType) (units : Text) → AreUnits units → (index : ℕ) (os : List Object) (ms : List (ObjectOf ℕ))
    → ShowsObjects trees components os ms → (r : ℕ) (m : ObjectOf ℕ) → slice_get ms r ≡ Some m → is_array m ≡ true
    → ShowsObjects trees components (with_units os r index units) (slice_set ms r (with_elements index (map (char_value words) units) m))
units_shown trees components [] are index os ms shows r m there is =
    subst (ShowsObjects trees components os) (sym (set_same ms r m there)) shows
units_shown trees components (unit ∷ units) are index os ms shows r m there is =
    subst (ShowsObjects trees components (with_units os r index (unit ∷ units))) same
    (units_shown trees components units (All-tail (λ u. u < 2 ^ 16) unit units are) (index + 1) (put_field os r index unit) (slice_set ms r one)
    (element_put trees components os ms shows r m there is index unit) r one (get_set_at ms r m one there) (still_array m index unit is))
  where
    one : ObjectOf ℕ
    one = with_element index unit m

    char_is : kept Char unit ≡ unit
    char_is = mod-eq_of_lt (All-head (λ u. u < 2 ^ 16) unit units are)

    same : slice_set (slice_set ms r one) r (with_elements (index + 1) (map (char_value words) units) one)
        ≡ slice_set ms r (with_elements index (map (char_value words) (unit ∷ units)) m)
    same =
        set-set ms r one (with_elements (index + 1) (map (char_value words) units) one)
        ∙ ap (λ value. slice_set ms r (with_elements (index + 1) (map (char_value words) units) (with_element index value m))) (sym char_is)

-- an array that has elements is there
record IsThere (ms : List (ObjectOf ℕ)) (r : ℕ) : Type 0 where
  pub array : ObjectOf ℕ
  pub there : slice_get ms r ≡ Some array
  pub is : is_array array ≡ true

array_by : (m : ObjectOf ℕ) → 0 < length (elements_of m) → is_array m ≡ true
array_by (Instance class fields) some = absurd (omega (arith, some))
array_by (Primitives of elements) some = refl
array_by (References of elements) some = refl
array_by (Characters text) some = absurd (omega (arith, some))

array_there : (ms : List (ObjectOf ℕ)) (r : ℕ) → 0 < length (elements_of (slice_index_or ms r no_object)) → IsThere ms r
array_there [] r some = absurd (omega (arith, some))
array_there (m ∷ ms) zero some = record { array = m; there = refl; is = array_by m some }
array_there (m ∷ ms) (suc r) some = let h = array_there ms r some in record { array = h.array; there = h.there; is = h.is }

module _ (trees : Program) (p : LinkedProgram) (bounds : Bounds) (world : WorldOf ℕ) (old : Shared) (r : Represents trees p bounds old world) (array index : ℕ) where
  abbrev pub stored : Text → Shared
  stored units = record old { heap = record old.heap { objects = with_units old.heap.objects array index units } }

  some_stored : (units : Text) → AreUnits units → IsThere world.heap array → Represents trees p bounds (stored units) (with_units_at words world array index units)
  some_stored units are h =
      record {
        world_is = record {
          objects = subst (ShowsObjects trees p.components.items (with_units old.heap.objects array index units)) heap_is
              (units_shown trees p.components.items units are index old.heap.objects world.heap r.world_is.objects array h.array h.there h.is);
          counted =
              r.world_is.counted
              ∙ (sym (counts_same world.heap array h.array after h.there (units_cells (map (char_value words) units) index h.array) (opening_count trees))
              ∙ ap (λ heap. sum_by cells_of (drop (opening_count trees) heap)) heap_is);
          monitors = r.world_is.monitors;
          statics = r.world_is.statics;
          statuses = r.world_is.statuses;
          ready = r.world_is.ready;
          threads = r.world_is.threads;
          printed = r.world_is.printed;
          interned = r.world_is.interned;
          unnamed = r.world_is.unnamed;
        };
        limits = record {
          opening = r.limits.opening;
          objects = r.limits.objects;
          cells = r.limits.cells;
          monitors = r.limits.monitors;
          threads = r.limits.threads;
        };
      }
    where
      after : ObjectOf ℕ
      after = with_elements index (map (char_value words) units) h.array

      heap_is : slice_set world.heap array after ≡ slice_set world.heap array (with_elements index (map (char_value words) units) (object_at world array))
      heap_is =
          ap (λ m. slice_set world.heap array (with_elements index (map (char_value words) units) m))
          (sym (get_or_from_slice_get world.heap array h.array no_object h.there))

  -- of as many units as there are elements at most
  pub units_stored : (units : Text) → AreUnits units → length units ≤ length (elements_of (object_at world array))
      → Represents trees p bounds (stored units) (with_units_at words world array index units)
  units_stored [] are room =
      subst (Represents trees p bounds old) (ap (λ heap. record world { heap = heap }) (sym (set-get_or world.heap array no_object))) r
  units_stored (unit ∷ units) are room = some_stored (unit ∷ units) are (array_there world.heap array (omega (arith, room)))
