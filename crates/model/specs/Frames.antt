-- Frames (JVMS 2.6): new ones, where they stand, and how many there are.
use Rattle.std.specs.Prelude.{ℕ, suc, ◌-◌, List, [], ◌∷◌, ◌++◌, Option, Some, None, Bool, false, if◌then◌else◌, length, replicate}
use Rattle.std.specs.Option.{option_map_or}
use Rattle.model.specs.Names.{Member}
use Rattle.model.specs.Classes.{Program, Body}
use Rattle.model.specs.Lookup.{method_of, is_synchronized_method}
use Rattle.model.specs.Operands.{Slots, Carrier}
use Rattle.model.specs.State.{FrameOf, Invocation, Initialisation, StackOf}

-- the local variables of a new frame: the arguments, and then variables to which nothing was written (JVMS 2.6.1)
abbrev pub locals_with : {A : Type 0} → A → ℕ → List A → List A
locals_with unset max_locals arguments = arguments ++ replicate (max_locals - length arguments) unset

abbrev pub frame_with : {A : Type 0} → Carrier A → Member → List A → Option ℕ → Body → FrameOf A
frame_with C method arguments entered body =
    record {
      method = method;
      place = record { offset = 0; slots = record { locals = locals_with C.over.unset body.code.max_locals arguments; stack = [] } };
      entered = entered;
    }

abbrev pub is_synchronized_one : Program → Member → Bool
is_synchronized_one files method = option_map_or is_synchronized_method (method_of files method) false

-- The object whose monitor an invocation of a method enters, if the method is synchronized (JVMS 2.11.10): its receiver, or the
-- Class object of the class that declares a static one.
abbrev pub entered_by : Program → Member → ℕ → Option ℕ
entered_by files method object = if is_synchronized_one files method then Some object else None

-- how many frames a stack has
abbrev pub frame_count : {A : Type 0} → StackOf A → ℕ
frame_count [] = 0
frame_count (Invocation frame ∷ stack) = suc (frame_count stack)
frame_count (Initialisation class phase ∷ stack) = frame_count stack

abbrev pub at_offset : {A : Type 0} → FrameOf A → ℕ → Slots A → FrameOf A
at_offset frame offset slots = record frame { place = record { offset = offset; slots = slots } }

-- a frame that waits at its call, whose arguments are gone
abbrev pub at_call : {A : Type 0} → FrameOf A → List A → FrameOf A
at_call frame rest = at_offset frame frame.place.offset (record { locals = frame.place.slots.locals; stack = rest })
