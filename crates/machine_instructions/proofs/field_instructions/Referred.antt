-- The object that a word refers to, and a machine that has changed one of its objects, or a static field.
use Rattle.std.proofs.Common.{◌≡◌, ℕ, zero, suc, ◌-◌, ◌<◌, ◌≤◌, List, [], ◌∷◌, Bool, true, false, Option, Some, None, refl, sym, subst, arith, ◌∙◌, Vec, Global}
use Rattle.std.specs.Prelude.{drop, sum_by, slice_get, slice_index_or, option_map}
use Rattle.std.specs.Option.{option_map_or}
use Rattle.std.proofs.lemmas.Bool.{false≢true, and_parts}
use Rattle.std.proofs.lemmas.Option.{slice_get-map}
use Rattle.model.specs.Names.{Member}
use Rattle.model.specs.Classes.{Program}
use Rattle.model.specs.LimitStands.{Bounds, opening_count}
use Rattle.model.specs.ReferenceTypes.{ReferenceType}
use Rattle.model.specs.Types.{Want}
use Rattle.model.specs.Operands.{pops_meet}
use Rattle.model.specs.State.{ObjectOf, type_of, types_of, WorldOf}
use Rattle.model.specs.Worlds.{cells_of}
use Rattle.heap.specs.Heap.{Object}
use Rattle.linked_code.specs.declared.program.LinkedProgram.{LinkedProgram}
use Rattle.run_laws.specs.word_operands.Operands.{is_word_with}
use Rattle.machine_state.specs.shown_objects.Shown.{ShowsObjects, ShowsStatics}
use Rattle.machine_state.specs.declared.state.Shared.{Shared}
use Rattle.machine_state.specs.Shown.{Represents}

-- ---- operands

-- the first, the second and the third are as they are wanted
pub meets_first : (accepts : Want → ℕ → Bool) (a : Want) (ws : List Want) (stack : List ℕ) → pops_meet accepts (a ∷ ws) stack ≡ true
    → accepts a (slice_index_or stack 0 0) ≡ true
meets_first accepts a ws [] e = absurd (false≢true e)
meets_first accepts a ws (x ∷ stack) e = (and_parts _ _ e).0

pub meets_second : (accepts : Want → ℕ → Bool) (a b : Want) (ws : List Want) (stack : List ℕ) → pops_meet accepts (a ∷ b ∷ ws) stack ≡ true
    → accepts b (slice_index_or stack 1 0) ≡ true
meets_second accepts a b ws [] e = absurd (false≢true e)
meets_second accepts a b ws (x ∷ stack) e = meets_first accepts b ws stack (and_parts _ _ e).1

pub meets_third : (accepts : Want → ℕ → Bool) (a b c : Want) (ws : List Want) (stack : List ℕ)
    → pops_meet accepts (a ∷ b ∷ c ∷ ws) stack ≡ true → accepts c (slice_index_or stack 2 0) ≡ true
meets_third accepts a b c ws [] e = absurd (false≢true e)
meets_third accepts a b c ws (x ∷ stack) e = meets_second accepts b c ws stack (and_parts _ _ e).1

-- ---- objects

-- a word that is not 0 is a reference and one; 0 is null
pub null_is : (w : ℕ) → (1 ≤ w → ⊥) → w ≡ 0
null_is zero e = refl
null_is (suc r) e = absurd (e (omega arith))

pub refers : (w r : ℕ) → (1 ≤ w) × (r ≡ w - 1) → w ≡ suc r
refers w r e = let least = e.0 in let is = e.1 in omega arith

-- an index is one of so many, or is not
pub within : (i n k : ℕ) → n ≡ k → i < n → i < k
within i n k e less = omega arith

pub past : (i n k : ℕ) → n ≡ k → n ≤ i → k ≤ i
past i n k e most = omega arith

-- an object that is there, whose type passes a test
pub record Referred (heap : List (ObjectOf ℕ)) (test : ReferenceType → Bool) (r : ℕ) : Type 0 where
  pub object : ObjectOf ℕ
  pub there : slice_get heap r ≡ Some object
  pub passes : test (type_of object) ≡ true

pub referred : (heap : List (ObjectOf ℕ)) (test : ReferenceType → Bool) (r : ℕ) → is_word_with (types_of heap) test (suc r) ≡ true
    → Referred heap test r
referred heap test r e = by (slice_get heap r) refl (subst (λ o. option_map_or test o false ≡ true) (slice_get-map type_of heap r) e)
  where
    by : (o : Option (ObjectOf ℕ)) → slice_get heap r ≡ o → option_map_or test (option_map type_of o) false ≡ true → Referred heap test r
    by None q h = absurd (false≢true h)
    by (Some object) q h = record { object = object; there = q; passes = h }

-- ---- what is shown after a change

module _ (trees : Program) (p : LinkedProgram) (bounds : Bounds) (old : Shared) (world : WorldOf ℕ)
    (r : Represents trees p bounds old world) where
  -- of objects
  pub with_objects : (objects : List Object) (heap : List (ObjectOf ℕ)) → ShowsObjects trees p.components.items objects heap
      → ((n : ℕ) → sum_by cells_of (drop n heap) ≡ sum_by cells_of (drop n world.heap))
      → Represents trees p bounds (record old { heap = record old.heap { objects = objects } }) (record world { heap = heap })
  with_objects objects heap shows counted =
      record {
        world_is = record {
          objects = shows;
          counted = r.world_is.counted ∙ sym (counted (opening_count trees));
          monitors = r.world_is.monitors;
          statics = r.world_is.statics;
          statuses = r.world_is.statuses;
          ready = r.world_is.ready;
          threads = r.world_is.threads;
          printed = r.world_is.printed;
          interned = r.world_is.interned;
          unnamed = r.world_is.unnamed;
        };
        limits = record {
          opening = r.limits.opening;
          objects = r.limits.objects;
          cells = r.limits.cells;
          monitors = r.limits.monitors;
          threads = r.limits.threads;
        };
      }

  -- of static fields
  pub with_slots : (statics : Vec ℕ Global) (fields : List (Member × ℕ)) → ShowsStatics trees statics.items fields
      → Represents trees p bounds (record old { statics = statics }) (record world { statics = fields })
  with_slots statics fields shows =
      record {
        world_is = record {
          objects = r.world_is.objects;
          counted = r.world_is.counted;
          monitors = r.world_is.monitors;
          statics = shows;
          statuses = r.world_is.statuses;
          ready = r.world_is.ready;
          threads = r.world_is.threads;
          printed = r.world_is.printed;
          interned = r.world_is.interned;
          unnamed = r.world_is.unnamed;
        };
        limits = record {
          opening = r.limits.opening;
          objects = r.limits.objects;
          cells = r.limits.cells;
          monitors = r.limits.monitors;
          threads = r.limits.threads;
        };
      }
