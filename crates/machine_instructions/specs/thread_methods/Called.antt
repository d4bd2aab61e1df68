-- What a call of a method without code finds and does (own: it is an event, with no frame; JLS 17.2, the API of Object and Thread).
use Rattle.std.specs.Prelude.{◌≡◌, ◌<◌, ◌≤◌, ℕ, suc, List, ◌∷◌, Some, Bool, true, Result, length, take, drop, slice_get}
use Rattle.model.specs.declared.event.Event.{Event}
use Rattle.model.specs.declared.string_method.StringMethod.{StringMethod}
use Rattle.model.specs.declared.string_method.StringMethod.TheVariants.{Length, CharAt, Equals, HashCode, CompareTo, Concat, Substring, IndexOf, RegionMatches, ValueOfInt, ValueOfChar}
use Rattle.model.specs.declared.text_method.TextMethod.{TextMethod}
use Rattle.model.specs.declared.text_method.TextMethod.TheVariants as texts
use Rattle.model.specs.declared.name_method.NameMethod.{NameMethod}
use Rattle.model.specs.declared.name_method.NameMethod.TheVariants as names
use Rattle.model.specs.declared.builder_method.BuilderMethod.{BuilderMethod}
use Rattle.model.specs.declared.builder_method.BuilderMethod.TheVariants.{ConstructEmpty, ConstructOfString, AppendString, AppendInt, AppendChar, AppendBuilder, ToString}
use Rattle.model.specs.declared.object_method.ObjectMethod.{ObjectMethod}
use Rattle.model.specs.declared.object_method.ObjectMethod.TheVariants as asked
use Rattle.model.specs.Names.{java_lang_thread, java_lang_throwable}
use Rattle.model.specs.Classes.{Program}
use Rattle.model.specs.Operands.{words}
use Rattle.model.specs.State as model
use Rattle.model.specs.State.{ObjectOf, FrameOf, StackOf, WorldOf, StateOf}
use Rattle.model.specs.LimitStands.{Bounds}
use Rattle.model.specs.BuiltInMethods.{built_in_may, built_in_does}
use Rattle.model.specs.Step.{SteppedOf, PartOf, enabled_if, become}
use Rattle.run_laws.specs.word_operands.Receivers.{is_any, has_class_below}
use Rattle.linked_code.specs.declared.method.BuiltInMethod.{BuiltInMethod}
use Rattle.linked_code.specs.declared.method.BuiltInMethod.TheVariants as method
use Rattle.linked_code.specs.declared.program.LinkedProgram.{LinkedProgram}
use Rattle.linked_code.specs.Methods.{built_in_of}
use Rattle.thread_stacks.specs.Stacks.{ShownFrame, ShownEntry, Invocation}
use Rattle.machine_state.specs.shown_stacks.Shown.{offset_at}
use Rattle.machine_state.specs.declared.answers.Effect.{Effect}
use Rattle.machine_state.specs.declared.refusals.EventRefusal.{EventRefusal}
use Rattle.machine_state.specs.declared.state.Shared.{Shared}
use Rattle.machine_state.specs.Shown.{IsProgram, IsLent}
use Rattle.machine_state.specs.Instructions.{Does}

-- ---- what a call finds

-- an operand, counted from the top, refers to an object that is there and passes a test
pub record RefersTo (heap : List (ObjectOf ℕ)) (operands : List ℕ) (k : ℕ) (is : ObjectOf ℕ → Bool) : Type 0 where
  pub reference : ℕ
  pub word : slice_get operands k ≡ Some (suc reference)
  pub object : ObjectOf ℕ
  pub there : slice_get heap reference ≡ Some object
  pub fits : is object ≡ true

-- how many operands a method of String has, its receiver among them
abbrev pub string_operands : StringMethod → ℕ
string_operands Length = 1
string_operands CharAt = 2
string_operands Equals = 2
string_operands HashCode = 1
string_operands CompareTo = 2
string_operands Concat = 2
string_operands Substring = 3
string_operands IndexOf = 3
string_operands RegionMatches = 5
string_operands ValueOfInt = 1
string_operands ValueOfChar = 1

-- the same of a constructor of String, and of one that takes its text apart
abbrev pub text_operands : TextMethod → ℕ
text_operands texts.ConstructEmpty = 1
text_operands texts.ConstructOfString = 2
text_operands texts.ConstructOfChars = 4
text_operands texts.GetChars = 5
text_operands texts.Intern = 1

-- the place of the Thread among the operands of a method that names it
abbrev pub named_place : NameMethod → ℕ
named_place names.Construct = 0
named_place names.ConstructWithTarget = 1
named_place names.ConstructWithName = 1
named_place names.ConstructWithTargetAndName = 2
named_place names.GetName = 0
named_place names.SetName = 1

-- the same of one of StringBuilder
abbrev pub builder_operands : BuilderMethod → ℕ
builder_operands ConstructEmpty = 1
builder_operands ConstructOfString = 2
builder_operands AppendString = 2
builder_operands AppendInt = 2
builder_operands AppendChar = 2
builder_operands AppendBuilder = 2
builder_operands ToString = 1

-- What an object tells of itself is told of one that is there; of null `identityHashCode` and `described` are asked, too.
abbrev pub AreTold : List (ObjectOf ℕ) → List ℕ → ObjectMethod → Type 0
AreTold heap operands asked.HashCode = RefersTo heap operands 0 is_any
AreTold heap operands asked.IdentityHashCode = 0 < length operands
AreTold heap operands asked.GetClass = RefersTo heap operands 0 is_any
AreTold heap operands asked.ClassName = RefersTo heap operands 0 is_any
AreTold heap operands asked.Described = 1 < length operands

-- The operands of a call, the top first: a receiver is not null, and where a field of a Thread or a Throwable is written it is one. What a method of
-- String or StringBuilder reads is there.
abbrev pub AreArguments : Program → List (ObjectOf ℕ) → List ℕ → BuiltInMethod → Type 0
AreArguments trees heap operands method.Construct = Unit {0}
AreArguments trees heap operands method.ConstructWithMessage = RefersTo heap operands 1 (has_class_below trees java_lang_throwable)
AreArguments trees heap operands method.ConstructWithCause = RefersTo heap operands 2 (has_class_below trees java_lang_throwable)
AreArguments trees heap operands method.ObjectClone = RefersTo heap operands 0 is_any
AreArguments trees heap operands method.ObjectWait = RefersTo heap operands 0 is_any
AreArguments trees heap operands method.ObjectNotify = RefersTo heap operands 0 is_any
AreArguments trees heap operands method.ObjectNotifyAll = RefersTo heap operands 0 is_any
AreArguments trees heap operands method.ThreadStart = RefersTo heap operands 0 is_any
AreArguments trees heap operands method.ThreadInterrupt = RefersTo heap operands 0 is_any
AreArguments trees heap operands method.ThreadIsInterrupted = RefersTo heap operands 0 is_any
AreArguments trees heap operands method.ThreadInterrupted = Unit {0}
AreArguments trees heap operands method.ThreadYield = Unit {0}
AreArguments trees heap operands method.ThreadCurrentThread = Unit {0}
AreArguments trees heap operands method.ThreadJoin = RefersTo heap operands 0 is_any
AreArguments trees heap operands method.ThreadIsAlive = RefersTo heap operands 0 is_any
AreArguments trees heap operands (method.ThreadNames names) = RefersTo heap operands (named_place names) (has_class_below trees java_lang_thread)
AreArguments trees heap operands (method.PrintStreamPrints print) = 0 < length operands
AreArguments trees heap operands (method.StringAnswers string) = string_operands string ≤ length operands
AreArguments trees heap operands (method.StringWrites writes) = text_operands writes ≤ length operands
AreArguments trees heap operands (method.StringBuilderBuilds builds) = builder_operands builds ≤ length operands
AreArguments trees heap operands (method.ObjectAnswers asked) = AreTold heap operands asked

-- The frame on top of a thread, whose stack is lent, calls a method that takes so many words. The place behind the call has this
-- offset.
pub record IsCalling (trees : Program) (p : LinkedProgram) (bounds : Bounds) (inflated : List ℕ) (t : ℕ) (shared : Shared)
    (stack : List ShownEntry) (state : StateOf ℕ) (frame : FrameOf ℕ) (rest : StackOf ℕ) (called : BuiltInMethod)
    (count next offset : ℕ) : Type 0 where
  pub program : IsProgram trees p
  pub lent : IsLent trees p bounds inflated t shared stack state (model.Invocation frame ∷ rest)
  pub shown : ShownFrame
  pub others : List ShownEntry
  pub is_stack : stack ≡ Invocation shown ∷ others
  pub goes_on : offset_at p shown.method next ≡ offset
  pub arguments : AreArguments trees state.world.heap (take count frame.place.slots.stack) called

-- so it does in some state of some files: what is asked of who calls it
pub record CanCall (t : ℕ) (shared : Shared) (stack : List ShownEntry) (called : BuiltInMethod) (count next : ℕ) : Type 0 where
  pub trees : Program
  pub p : LinkedProgram
  pub bounds : Bounds
  pub inflated : List ℕ
  pub state : StateOf ℕ
  pub frame : FrameOf ℕ
  pub rest : StackOf ℕ
  pub offset : ℕ
  pub is : IsCalling trees p bounds inflated t shared stack state frame rest called count next offset

-- ---- what it does

-- the method is done, where the event's pick and the other threads let it
abbrev pub call_event : Program → ℕ → Event → WorldOf ℕ → FrameOf ℕ → StackOf ℕ → BuiltInMethod → (count offset : ℕ) → SteppedOf (PartOf ℕ)
call_event trees frames event world frame rest called count offset =
    enabled_if (built_in_may words (built_in_of called) event world (take count frame.place.slots.stack))
    (become words trees frames event.thread world frame rest
    (built_in_does words trees (built_in_of called) offset event world frame.place.slots (take count frame.place.slots.stack) (drop count frame.place.slots.stack)))

-- In whatever state a thread of a program calls the method, the result says what becomes of the event by it.
abbrev pub DoesCall : LinkedProgram → BuiltInMethod → (count next : ℕ) → Event → Result Effect EventRefusal → (old new : Shared)
    (from to : List ShownEntry) → Type 0
DoesCall p called count next event result old new from to =
    (trees : Program) (bounds : Bounds) (inflated : List ℕ) (state : StateOf ℕ) (frame : FrameOf ℕ) (rest : StackOf ℕ) (offset : ℕ)
    → IsCalling trees p bounds inflated event.thread old from state frame rest called count next offset
    → (frames : ℕ)
    → Does trees p bounds inflated event.thread state.world (model.Invocation frame
    ∷ rest) (call_event trees frames event state.world frame rest called count offset) result old new from to

-- of whichever program, by an event of a thread that picks nothing
abbrev pub DoesUnpicked : BuiltInMethod → (count next : ℕ) → (t : ℕ) → Result Effect EventRefusal → (old new : Shared)
    (from to : List ShownEntry) → Type 0
DoesUnpicked called count next t result old new from to =
    (p : LinkedProgram) → DoesCall p called count next (record { thread = t; pick = 0 }) result old new from to
