-- A field of an object that is written: the words show the world after it.
use Rattle.std.proofs.Common.{◌≡◌, ◌<◌, ℕ, List, length, Some, sym, ap, subst, ◌∙◌}
use Rattle.std.specs.Prelude.{drop, sum_by, slice_get, slice_set}
use Rattle.std.proofs.lemmas.List.{get_or-set_same, length-set, set-set}
use Rattle.std.proofs.lemmas.Option.{get_or_from_slice_get, slice_get_within, slice_get-get_or}
use Rattle.model.specs.Names.{Name, Member}
use Rattle.model.specs.Classes.{Program}
use Rattle.model.specs.LimitStands.{Bounds, opening_count}
use Rattle.model.specs.Lookup.{instance_fields}
use Rattle.model.specs.State.{ObjectOf, Instance, WorldOf}
use Rattle.model.specs.Worlds.{cells_of, no_object, with_field, with_object, with_value, object_at}
use Rattle.heap.specs.Heap.{put_field}
use Rattle.linked_code.specs.Numbers.{slot_in}
use Rattle.linked_code.specs.declared.program.LinkedProgram.{LinkedProgram}
use Rattle.machine_state.specs.Shown.{Represents}
use Rattle.machine_state.specs.declared.state.Shared.{Shared}
use Rattle.machine_state.specs.shown_objects.Shown.{ShowsObjects}
use Rattle.machine_state.proofs.shown_objects.Objects.{are_fields}

-- a word is put into a slot of an object
abbrev pub with_word_in : Shared → (reference slot value : ℕ) → Shared
with_word_in old reference slot value = record old { heap = record old.heap { objects = put_field old.heap.objects reference slot value } }

module _ (trees : Program) (p : LinkedProgram) (bounds : Bounds) (world : WorldOf ℕ) (old : Shared) (r : Represents trees p bounds old world)
    (reference : ℕ) (class : Name) (fields : List (Member × ℕ)) (there : slice_get world.heap reference ≡ Some (Instance class fields))
    (field : Member) (slot : ℕ) (at : slot_in (instance_fields trees class) field ≡ Some slot) (value : ℕ) where
  abbrev pub after : WorldOf ℕ
  after = with_object world reference (with_field field value (object_at world reference))

  pub written : Represents trees p bounds (with_word_in old reference slot value) after
  written =
      let f = are_fields trees p.components.items old.heap.objects world.heap r.world_is.objects reference class fields there field slot at in
      let heap_is : slice_set world.heap reference (with_field field value (Instance class fields)) ≡ after.heap =
      ap (λ o. slice_set world.heap reference (with_field field value o)) (sym (get_or_from_slice_get world.heap reference (Instance class fields) no_object there))
      in
      record {
        world_is = record {
          objects = subst (λ ms. ShowsObjects trees p.components.items (put_field old.heap.objects reference slot value) ms) heap_is (f.written value);
          counted = r.world_is.counted ∙ (sym (f.counted value (opening_count trees)) ∙ ap (λ heap. sum_by cells_of (drop (opening_count trees) heap)) heap_is);
          monitors = r.world_is.monitors;
          statics = r.world_is.statics;
          statuses = r.world_is.statuses;
          ready = r.world_is.ready;
          threads = r.world_is.threads;
          printed = r.world_is.printed;
          interned = r.world_is.interned;
          unnamed = r.world_is.unnamed;
        };
        limits = record {
          opening = r.limits.opening;
          objects = r.limits.objects;
          cells = r.limits.cells;
          monitors = r.limits.monitors;
          threads = r.limits.threads;
        };
      }

-- ---- a second one of the same object

module _ (trees : Program) (p : LinkedProgram) (bounds : Bounds) (world : WorldOf ℕ) (old : Shared) (r : Represents trees p bounds old world)
    (reference : ℕ) (class : Name) (fields : List (Member × ℕ)) (there : slice_get world.heap reference ≡ Some (Instance class fields))
    (field other : Member) (slot second : ℕ) (at : slot_in (instance_fields trees class) field ≡ Some slot)
    (at_second : slot_in (instance_fields trees class) other ≡ Some second) (value given : ℕ) where
  abbrev between : WorldOf ℕ
  between = with_object world reference (with_field field value (object_at world reference))

  abbrev first_one : ObjectOf ℕ
  first_one = with_field field value (object_at world reference)

  within : reference < length world.heap
  within = slice_get_within world.heap reference (Instance class fields) there

  object_is : object_at world reference ≡ Instance class fields
  object_is = get_or_from_slice_get world.heap reference (Instance class fields) no_object there

  still_there : slice_get between.heap reference ≡ Some (Instance class (with_value field value fields))
  still_there =
      slice_get-get_or between.heap reference no_object (subst (λ n. reference < n) (sym (length-set world.heap reference first_one)) within)
      ∙ ap (λ o. Some o) (get_or-set_same world.heap reference first_one no_object within ∙ ap (with_field field value) object_is)

  pub twice_written : Represents trees p bounds (with_word_in (with_word_in old reference slot value) reference second given)
      (with_object world reference (with_field other given (with_field field value (object_at world reference))))
  twice_written =
      let one = written trees p bounds world old r reference class fields there field slot at value in
      let two =
      written trees p bounds between (with_word_in old reference slot value) one reference class (with_value field value fields) still_there other second at_second given
      in
      let same : with_object between reference (with_field other given (object_at between reference))
      ≡ with_object world reference (with_field other given first_one) =
      ap (λ (o : ObjectOf ℕ). with_object between reference (with_field other given o)) (get_or-set_same world.heap reference first_one no_object within)
      ∙ ap (λ (heap : List (ObjectOf ℕ)). record world { heap = heap }) (set-set world.heap reference first_one (with_field other given first_one))
      in
      subst (Represents trees p bounds (with_word_in (with_word_in old reference slot value) reference second given)) same two
