-- States without the kinds of their values (own): an int by its bits, null and an unset variable as 0, a reference r as r + 1.
use Rattle.std.specs.Prelude.{◌≡◌, ℕ, map}
use Rattle.model.specs.Names.{Member}
use Rattle.model.specs.Classes.{Program}
use Rattle.model.specs.Operands.{Slots, word_of}
use Rattle.model.specs.State.{ObjectOf, Instance, Primitives, References, Characters, FrameOf, StackEntryOf, Invocation, Initialisation, StackOf, WorldOf, StateOf, State}
use Rattle.model.specs.WellTyped.{IsWellTyped}

-- ---- what a function on values makes of a state

abbrev pub map_field : {A B : Type 0} → (A → B) → Member × A → Member × B
map_field f field = (field.0, f field.1)

abbrev pub map_object : {A B : Type 0} → (A → B) → ObjectOf A → ObjectOf B
map_object f (Instance class fields) = Instance class (map (map_field f) fields)
map_object f (Primitives of elements) = Primitives of (map f elements)
map_object f (References of elements) = References of (map f elements)
map_object f (Characters text) = Characters text

abbrev pub map_slots : {A B : Type 0} → (A → B) → Slots A → Slots B
map_slots f s = record { locals = map f s.locals; stack = map f s.stack }

abbrev pub map_frame : {A B : Type 0} → (A → B) → FrameOf A → FrameOf B
map_frame f frame =
    record {
      method = frame.method;
      place = record { offset = frame.place.offset; slots = map_slots f frame.place.slots };
      entered = frame.entered;
    }

abbrev pub map_entry : {A B : Type 0} → (A → B) → StackEntryOf A → StackEntryOf B
map_entry f (Invocation frame) = Invocation (map_frame f frame)
map_entry f (Initialisation class phase) = Initialisation class phase

abbrev pub map_stack : {A B : Type 0} → (A → B) → StackOf A → StackOf B
map_stack f stack = map (map_entry f) stack

abbrev pub map_world : {A B : Type 0} → (A → B) → WorldOf A → WorldOf B
map_world f world =
    record {
      heap = map (map_object f) world.heap;
      statics = map (map_field f) world.statics;
      classes = world.classes;
      monitors = world.monitors;
      threads = world.threads;
      printed = world.printed;
      interned = world.interned;
      unnamed = world.unnamed;
    }

abbrev pub map_state : {A B : Type 0} → (A → B) → StateOf A → StateOf B
map_state f state = record { world = map_world f state.world; stacks = map (map_stack f) state.stacks }

-- ---- words

abbrev pub words_of : State → StateOf ℕ
words_of state = map_state word_of state

-- words are those of a state, which is well typed
pub record AreWordsOf (files : Program) (words : StateOf ℕ) (state : State) : Type 0 where
  pub typed : IsWellTyped files state
  pub are : words ≡ words_of state

-- words are those of a well-typed state
abbrev pub AreWellTypedWords : Program → StateOf ℕ → Type 0
AreWellTypedWords files words = (state : State) × AreWordsOf files words state
