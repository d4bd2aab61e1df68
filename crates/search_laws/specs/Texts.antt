-- Strings keep their texts (JLS 4.3.3), once they have one.
use Rattle.std.specs.Prelude.{◌≡◌, ℕ, List, Some, Bool, ◌&&◌, ◌==◌, nat_le, length, slice_get, IsTrue, IsFalse}
use Rattle.std.specs.List.{list_any}
use Rattle.model.specs.declared.event.Event.{Event}
use Rattle.model.specs.declared.value.Value.{Value}
use Rattle.model.specs.Classes.{Program}
use Rattle.model.specs.Names.{name_eq}
use Rattle.model.specs.Opening.{opening_count, string_reference}
use Rattle.model.specs.State.{ObjectOf, State}
use Rattle.model.specs.Step.{step}
use Rattle.model.specs.StringConstants.{string_texts}
use Rattle.model.specs.Texts.{decoded}
use Rattle.model.specs.Worlds.{object_at, text_of}
use Rattle.search_laws.specs.KeptStates.{IsReached}

-- a String that its constructor may still give a text: a run made it behind so many objects of the opening, and it is empty
abbrev pub is_unwritten : ℕ → ℕ → ObjectOf Value → Bool
is_unwritten opened r string = nat_le opened r && length (text_of string) == 0

-- each object is there, and any other String has the text that it had
abbrev pub KeepsTexts : ℕ → List (ObjectOf Value) → List (ObjectOf Value) → Type 0
KeepsTexts opened before after =
    (r : ℕ) (old : ObjectOf Value) → slice_get before r ≡ Some old
    → (new : ObjectOf Value) × ((slice_get after r ≡ Some new) × (IsFalse (is_unwritten opened r old) → text_of new ≡ text_of old))

-- so after each event
abbrev pub AreTextsKept : Type 0
AreTextsKept =
    (files : Program) (frames : ℕ) (state next : State) (event : Event) → step files frames state event ≡ Some next
    → KeepsTexts (opening_count files) state.world.heap next.world.heap

-- so in each state of a run, the String of a constant has the text of the constant (JVMS 4.4.3, 4.4.7)
abbrev pub HaveConstantsTexts : Type 0
HaveConstantsTexts =
    (files : Program) (frames : ℕ) (state : State) → IsReached files frames state
    → (bytes : List ℕ) → IsTrue (list_any (name_eq bytes) (string_texts files))
    → text_of (object_at state.world (string_reference files bytes)) ≡ decoded bytes
