-- A new object of the heap, and the limits on objects and cells.
use Rattle.std.proofs.Common.{◌≡◌, ◌<◌, ◌≤◌, ◌+◌, ◌-◌, ◌^◌, ℕ, List, [], ◌∷◌, ◌++◌, Option, Some, None, Bool, true, false, if◌then◌else◌, length, drop, nat_le, nat_lt, refl, sym, ap, subst, ◌∙◌, arith}
use Rattle.std.specs.Prelude.{sum_by}
use Rattle.std.proofs.lemmas.Bool.{lt-leb, le-ltb, le-leb, lt-ltb}
use Rattle.std.proofs.lemmas.List.{drop-append-le}
use Rattle.std.proofs.lemmas.List.Sums.{sum_by-append}
use Rattle.model.specs.declared.end.RunCause.{RunCause}
use Rattle.model.specs.declared.end.RunCause.TheVariants as cause
use Rattle.model.specs.Classes.{Program}
use Rattle.model.specs.State.{ObjectOf, Characters, Monitor, WorldOf}
use Rattle.model.specs.Monitors.{unlocked}
use Rattle.model.specs.Worlds.{allocated, cells_of}
use Rattle.model.specs.LimitStands.{Bounds, opening_count, objects_made, cells_made}
use Rattle.heap.specs.declared.refusal.AllocRefusal.TheVariants as refusal
use Rattle.heap.specs.Heap as heap
use Rattle.heap.specs.Heap.{Object, Heap, fresh, with_object, IsAllocated}
use Rattle.linked_code.specs.declared.program.LinkedProgram.{LinkedProgram}
use Rattle.machine_state.specs.shown_objects.Shown.{ShowsObject}
use Rattle.machine_state.proofs.shown_objects.Objects.{counted, added}
use Rattle.machine_state.proofs.shown_objects.Strings.{text_shown}
use Rattle.machine_state.specs.declared.state.Shared.{Shared}
use Rattle.machine_state.specs.Shown.{Represents}
use Rattle.machine_state.specs.allocations.Allocated.{IsMade, string_of, AreMade, AreTextsMade, AreRefused}

-- ---- what was made

-- one more behind the opening
behind_one : (n : ℕ) (objects : List (ObjectOf ℕ)) (object : ObjectOf ℕ) → n ≤ length objects
    → sum_by cells_of (drop n (objects ++ object ∷ [])) ≡ sum_by cells_of (drop n objects) + cells_of object
behind_one n objects object within =
    let one : 0 + cells_of object ≡ cells_of object = omega arith in
    ap (sum_by cells_of) (drop-append-le n objects (object ∷ []) within)
    ∙ sum_by-append cells_of (drop n objects) (object ∷ [])
    ∙ ap (λ k. sum_by cells_of (drop n objects) + k) one

module _ (trees : Program) (p : LinkedProgram) (bounds : Bounds) (world : WorldOf ℕ) (old : Shared)
    (r : Represents trees p bounds old world) where
  made_is : heap.made old.heap ≡ objects_made trees world
  made_is = λ i. counted trees p.components.items old.heap.objects world.heap r.world_is.objects i - r.limits.opening i

  -- ---- the limits

  abbrev full : Bool → Bool → Option RunCause
  full objects cells = if objects then Some cause.Objects else if cells then Some cause.Cells else None

  not_full : heap.made old.heap < old.heap.object_limit → nat_le bounds.objects (objects_made trees world) ≡ false
  not_full below = (λ i. nat_le (sym r.limits.objects i) (sym made_is i)) ∙ lt-leb old.heap.object_limit (heap.made old.heap) below

  is_full : old.heap.object_limit ≤ heap.made old.heap → nat_le bounds.objects (objects_made trees world) ≡ true
  is_full above = (λ i. nat_le (sym r.limits.objects i) (sym made_is i)) ∙ le-leb old.heap.object_limit (heap.made old.heap) above

  pub cells_fit : (count : ℕ) → old.heap.counted + count ≤ old.heap.cell_limit
      → nat_lt bounds.cells (cells_made trees world + count) ≡ false
  cells_fit count below = (λ i. nat_lt (sym r.limits.cells i) (sym r.world_is.counted i + count)) ∙ le-ltb old.heap.cell_limit (old.heap.counted + count) below

  pub cells_pass : (count : ℕ) → old.heap.cell_limit < old.heap.counted + count
      → nat_lt bounds.cells (cells_made trees world + count) ≡ true
  cells_pass count above = (λ i. nat_lt (sym r.limits.cells i) (sym r.world_is.counted i + count)) ∙ lt-ltb old.heap.cell_limit (old.heap.counted + count) above

  -- ---- the object

  abbrev with_one : Object → ℕ → Shared
  with_one one cells = record old { heap = with_object old.heap one cells }

  opening_there : old.heap.opening ≤ length old.heap.objects → opening_count trees ≤ length world.heap
  opening_there within =
      omega (arith, within, r.limits.opening, counted trees p.components.items old.heap.objects world.heap r.world_is.objects)

  represented : (one : Object) (cells : ℕ) (object : ObjectOf ℕ) → old.heap.opening ≤ length old.heap.objects
      → ShowsObject trees p.components.items one object → cells ≡ cells_of object
      → Represents trees p bounds (with_one one cells) (allocated world object)
  represented one cells object within shows cells_are =
      record {
        world_is = record {
          objects = added trees p.components.items old.heap.objects world.heap one object r.world_is.objects shows;
          counted =
              (λ i. r.world_is.counted i + cells_are i)
              ∙ sym (behind_one (opening_count trees) world.heap object (opening_there within));
          monitors = ap (λ (ms : List Monitor). ms ++ unlocked ∷ []) r.world_is.monitors;
          statics = r.world_is.statics;
          statuses = r.world_is.statuses;
          ready = r.world_is.ready;
          threads = r.world_is.threads;
          printed = r.world_is.printed;
          interned = r.world_is.interned;
          unnamed = r.world_is.unnamed;
        };
        limits = record {
          opening = r.limits.opening;
          objects = r.limits.objects;
          cells = r.limits.cells;
          monitors = r.limits.monitors;
          threads = r.limits.threads;
        };
      }

-- whatever object is shown by what is allocated
pub made_one : (trees : Program) (p : LinkedProgram) (bounds : Bounds) (inflated : List ℕ) (world : WorldOf ℕ) (old new : Shared)
    → Represents trees p bounds old world → (one : Object) (reference cells : ℕ)
    → reference ≡ length old.heap.objects → reference + 1 < 2 ^ 32
    → old.heap.opening ≤ length old.heap.objects
    → heap.made old.heap < old.heap.object_limit → old.heap.counted + cells ≤ old.heap.cell_limit
    → new ≡ record old { heap = with_object old.heap one cells }
    → (object : ObjectOf ℕ) → ShowsObject trees p.components.items one object → cells ≡ cells_of object
    → IsMade trees p bounds inflated world object reference cells old new
made_one trees p bounds inflated world old new r one reference cells next fits opened objects room is object shows cells_are =
    record {
      next = next ∙ counted trees p.components.items old.heap.objects world.heap r.world_is.objects;
      word = fits;
      within = within_is;
      represents = subst (λ (s : Shared). Represents trees p bounds s (allocated world object))
          (sym is) (represented trees p bounds world old r one cells object opened shows cells_are);
      flags = ap (λ (s : Shared). s.heap.locks.fat) is;
    }
  where
    within_is : full trees p bounds world old
        r (nat_le bounds.objects (objects_made trees world)) (nat_lt bounds.cells (cells_made trees world + cells)) ≡ None
    within_is =
        ap (λ (b : Bool). full trees p bounds world old r b (nat_lt bounds.cells (cells_made trees world + cells))) (not_full trees p bounds world old r objects)
        ∙ ap (full trees p bounds world old r false) (cells_fit trees p bounds world old r cells room)

pub made : AreMade
made trees p bounds inflated world old new r kind reference count cells allocates same object shows cells_are =
    made_one trees p bounds inflated world old new r (fresh kind count)
    reference cells allocates.answer allocates.fits allocates.opened allocates.objects allocates.cells
    (same ∙ ap (λ (h : Heap). record old { heap = h }) allocates.after) object shows cells_are

pub texts_made : AreTextsMade
texts_made trees p bounds inflated world old new r text units fits opened objects cells is =
    made_one trees p bounds inflated world old new r (string_of text) (length old.heap.objects) (length text) refl fits opened objects cells is (Characters text)
    (text_shown trees p.components.items text units) refl

pub refused : AreRefused
refused trees p bounds inflated world old new r count refusal.Objects why =
    (ap (λ (b : Bool). full trees p bounds world old r b (nat_lt bounds.cells (cells_made trees world + count))) (is_full trees p bounds world old r why.0), why.1)
refused trees p bounds inflated world old new r count refusal.Cells why = (
  ap (λ (b : Bool). full trees p bounds world old r b (nat_lt bounds.cells (cells_made trees world + count))) (not_full trees p bounds world old r why.0)
      ∙ ap (full trees p bounds world old r false) (cells_pass trees p bounds world old r count why.1),
  why.2,
)
refused trees p bounds inflated world old new r count refusal.Memory why = (refl, why.2)
