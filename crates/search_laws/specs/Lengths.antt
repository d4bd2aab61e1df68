-- Objects that are there stay, and arrays keep their lengths (JLS 10.2).
use Rattle.std.specs.Prelude.{◌≡◌, ℕ, List, Some, length, slice_get}
use Rattle.model.specs.declared.event.Event.{Event}
use Rattle.model.specs.declared.value.Value.{Value}
use Rattle.model.specs.Classes.{Program}
use Rattle.model.specs.State.{ObjectOf, State}
use Rattle.model.specs.Step.{step}
use Rattle.model.specs.Worlds.{elements_of}

-- each object is there, with as many elements as it had
abbrev pub KeepsLengths : List (ObjectOf Value) → List (ObjectOf Value) → Type 0
KeepsLengths before after =
    (r : ℕ) (old : ObjectOf Value) → slice_get before r ≡ Some old
    → (new : ObjectOf Value) × ((slice_get after r ≡ Some new) × (length (elements_of new) ≡ length (elements_of old)))

-- so after each event
abbrev pub AreLengthsKept : Type 0
AreLengthsKept =
    (files : Program) (frames : ℕ) (state next : State) (event : Event) → step files frames state event ≡ Some next
    → KeepsLengths state.world.heap next.world.heap
