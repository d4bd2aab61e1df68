-- What a heap makes of a String that gets its text, of the world that it shows (JVMS 2.7; limits: own).
use Rattle.std.specs.Prelude.{◌≡◌, ◌<◌, ◌≤◌, ◌+◌, ◌^◌, ℕ, List, Option, None, Some, Bool, true, false, ◌&&◌, ◌==◌, if◌then◌else◌, nat_le, length, slice_get}
use Rattle.model.specs.Classes.{Program}
use Rattle.model.specs.BuiltInNumbers.{string_number}
use Rattle.model.specs.State.{ObjectOf, WorldOf}
use Rattle.model.specs.Opening.{opening_count}
use Rattle.model.specs.Outcomes.{Fills}
use Rattle.model.specs.LimitStands.{Bounds}
use Rattle.model.specs.TextMethods.{with_text_at}
use Rattle.model.specs.Texts.{Text}
use Rattle.model.specs.Worlds.{cells_of}
use Rattle.heap.specs.declared.kind.ObjectKind.{ObjectKind}
use Rattle.heap.specs.declared.kind.ObjectKind.TheVariants as kind
use Rattle.heap.specs.declared.refusal.AllocRefusal.{AllocRefusal}
use Rattle.heap.specs.Heap.{Object, Heap, made, with_object, with_words, IsNotExtended}
use Rattle.linked_code.specs.declared.program.LinkedProgram.{LinkedProgram}
use Rattle.machine_state.specs.shown_objects.Shown.{AreUnits, ShowsObject}
use Rattle.machine_state.specs.declared.state.Shared.{Shared}
use Rattle.machine_state.specs.Refusals.{of_heap}
use Rattle.machine_state.specs.Shown.{IsProgram, Represents}
use Rattle.machine_state.specs.Events.{limit_of, MayBeRefused}
use Rattle.machine_state.specs.allocations.Allocated.{IsMade}

-- ---- a copy

-- whichever object the new one shows, with its own words, where as many cells are counted as it has
abbrev pub AreCopiesMade : Type 0
AreCopiesMade =
    (trees : Program) (p : LinkedProgram) (bounds : Bounds) (inflated : List ℕ) (world : WorldOf ℕ) (old new : Shared) → Represents trees p bounds old world
    → (one : Object) (object : ObjectOf ℕ) (cells : ℕ) → ShowsObject trees p.components.items one object → cells ≡ cells_of object
    → length old.heap.objects + 1 < 2 ^ 32 → old.heap.opening ≤ length old.heap.objects
    → made old.heap < old.heap.object_limit → old.heap.counted + cells ≤ old.heap.cell_limit
    → new ≡ record old { heap = with_object old.heap one cells }
    → IsMade trees p bounds inflated world object (length old.heap.objects) cells old new

-- ---- a String that has no text yet

abbrev pub is_string_kind : ObjectKind → Bool
is_string_kind (kind.Instance class) = class == string_number
is_string_kind _ = false

abbrev pub is_empty_string : Option Object → Bool
is_empty_string None = false
is_empty_string (Some object) = is_string_kind object.kind && (length object.words == 0)

-- it was made in the run
abbrev pub is_unfilled : Heap → (object : ℕ) → Bool
is_unfilled heap object = nat_le heap.opening object && is_empty_string (slice_get heap.objects object)

-- such a String gets the units; another object stays
abbrev pub filled : Heap → (object : ℕ) → Text → Heap
filled heap object units = if is_unfilled heap object then with_words heap object units else heap

-- no limit stood, and the world shown is the one where the String has its text; no lock is fat that wasn't
pub record IsFilled (trees : Program) (p : LinkedProgram) (bounds : Bounds) (inflated : List ℕ) (world : WorldOf ℕ) (string : ℕ) (text : Text)
    (old new : Shared) : Type 0 where
  pub within : limit_of trees bounds inflated world (Fills (length text)) ≡ None
  pub represents : Represents trees p bounds new (with_text_at (opening_count trees) world string text)
  pub flags : new.heap.locks.fat ≡ old.heap.locks.fat

abbrev pub AreFilled : Type 0
AreFilled =
    (trees : Program) (p : LinkedProgram) (bounds : Bounds) (inflated : List ℕ) (world : WorldOf ℕ) (old new : Shared) → IsProgram trees p → Represents trees p bounds old world
    → (string : ℕ) (text : Text) → AreUnits text → old.heap.counted + length text ≤ old.heap.cell_limit
    → new ≡ record old { heap = filled old.heap string text }
    → IsFilled trees p bounds inflated world string text old new

-- the limit on cells is told
abbrev pub AreFillsRefused : Type 0
AreFillsRefused =
    (trees : Program) (p : LinkedProgram) (bounds : Bounds) (inflated : List ℕ) (world : WorldOf ℕ) (old new : Shared) → Represents trees p bounds old world
    → (cells : ℕ) (told : AllocRefusal) → IsNotExtended told cells old.heap new.heap
    → MayBeRefused trees bounds inflated world (Fills cells) true (of_heap told) × (new.heap ≡ old.heap)
