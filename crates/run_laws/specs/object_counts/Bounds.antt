-- Bounds that a machine over words of 32 bits rests on: how many objects a run makes, and how many there are within its limits.
use Rattle.std.specs.Prelude.{◌≡◌, ℕ, ◌+◌, ◌<◌, ◌≤◌, ◌^◌, List, Some, Bool, true, false, nat_lt, length, IsTrue}
use Rattle.model.specs.declared.event.Event.{Event}
use Rattle.model.specs.declared.value.Value.{Value}
use Rattle.model.specs.declared.value.Value.TheVariants as value
use Rattle.model.specs.Classes.{Program}
use Rattle.model.specs.Types.{VerificationType, is_reference}
use Rattle.model.specs.Operands.{Carrier, words, values, word_of}
use Rattle.model.specs.State.{ObjectOf, types_of, StateOf, State}
use Rattle.model.specs.Opening.{opening_heap}
use Rattle.model.specs.Outcomes.{Cost, Free, Makes, Fills, Starts, Enters, Joins}
use Rattle.model.specs.Step.{Next, stepped}
use Rattle.model.specs.Run.{run}
use Rattle.model.specs.LimitStands.{Bounds, within_limits}
use Rattle.model.specs.Linkable.{IsLinkable}
use Rattle.model.specs.WellTyped.{has_type}

-- ---- how many objects there are

-- how many objects an event makes, by what it takes
abbrev pub made : Cost → ℕ
made Free = 0
made (Makes cells) = 1
made (Fills cells) = 0
made Starts = 0
made (Enters object count) = 0
made (Joins object) = 0

-- after an event there are as many objects more as it made, exceptions of the machine among them
abbrev pub IsCounted : {A : Type 0} → Carrier A → Type 0
IsCounted {A} C =
    (files : Program) (frames : ℕ) (state : StateOf A) (event : Event) (cost : Cost) (next : StateOf A)
    → stepped C files frames state event ≡ Next cost next → length next.world.heap ≡ length state.world.heap + made cost

-- over values and over words
pub record AreObjectsCounted : Type 0 where
  pub of_values : IsCounted values
  pub of_words : IsCounted words

-- the opening state of files that link has at most 294,967,295 objects
abbrev pub IsOpeningInRange : {A : Type 0} → Carrier A → Type 0
IsOpeningInRange C = (files : List (List ℕ)) (trees : Program) → IsLinkable files trees → length (opening_heap C trees) ≤ 294967295

-- over values and over words
pub record AreOpeningsInRange : Type 0 where
  pub of_values : IsOpeningInRange values
  pub of_words : IsOpeningInRange words

-- a run of files that link, within limits of at most 4,000,000,000 objects made
pub record IsRunWithin (trees : Program) (state : State) : Type 0 where
  pub files : List (List ℕ)
  pub linkable : IsLinkable files trees
  pub bounds : Bounds
  pub objects : bounds.objects ≤ 4000000000
  pub events : List Event
  pub within : IsTrue (within_limits trees bounds events)
  pub reached : run trees bounds.frames events ≡ Some state

-- it has fewer than 2^32 objects, those of the opening state included
abbrev pub AreObjectsInRange : Type 0
AreObjectsInRange = (trees : Program) (state : State) → IsRunWithin trees state → length state.world.heap < 2 ^ 32

-- ---- what references are

-- null, or a reference to one of so many objects
abbrev pub is_reference_in : ℕ → Value → Bool
is_reference_in objects value.Unset = false
is_reference_in objects (value.Int bits) = false
is_reference_in objects value.Null = true
is_reference_in objects (value.Reference r) = nat_lt r objects

-- what is of a type of references, those of objects that are not initialised among them, is null or a reference to an object that
-- is there
abbrev pub AreReferencesThere : Type 0
AreReferencesThere =
    (files : Program) (heap : List (ObjectOf Value)) (type : VerificationType) (v : Value)
    → IsTrue (is_reference type) → IsTrue (has_type files (types_of heap) type v) → IsTrue (is_reference_in (length heap) v)

-- so in such a run its word, which for a reference is one more than its number, is one of 32 bits
abbrev pub AreReferencesInRange : Type 0
AreReferencesInRange =
    (trees : Program) (state : State) → IsRunWithin trees state → (type : VerificationType) (v : Value)
    → IsTrue (is_reference type) → IsTrue (has_type trees (types_of state.world.heap) type v) → word_of v < 2 ^ 32
