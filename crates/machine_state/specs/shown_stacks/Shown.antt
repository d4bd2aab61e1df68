-- When the stack of a thread over numbers is the model's stack over words (JVMS 2.5.2, 2.6).
use Rattle.std.specs.Prelude.{◌≡◌, ℕ, List, [], ◌∷◌, take, drop, reverse, slice_get}
use Rattle.std.specs.Option.{option_map_or}
use Rattle.model.specs.Names.{Name, Member}
use Rattle.model.specs.Classes.{Program, Body}
use Rattle.model.specs.Operands.{words}
use Rattle.model.specs.State.{FrameOf, StackEntryOf, StackOf, Phase}
use Rattle.model.specs.State as model
use Rattle.model.specs.Frames.{frame_with, at_call, at_offset}
use Rattle.model.specs.Frames as frames
use Rattle.model.specs.Step.{next_of}
use Rattle.model.specs.Step as step
use Rattle.linked_code.specs.declared.method.LinkedMethod.{LinkedMethod}
use Rattle.linked_code.specs.declared.method.MethodBody.{MethodBody}
use Rattle.linked_code.specs.declared.method.MethodBody.TheVariants as body
use Rattle.linked_code.specs.declared.program.LinkedProgram.{LinkedProgram}
use Rattle.linked_code.specs.Numbers.{IsMethodAt, IsClassAt}
use Rattle.linked_code.specs.Linked.{offset_in, no_offset}
use Rattle.thread_stacks.specs.declared.entry.Phase.{Phase as LinkedPhase}
use Rattle.thread_stacks.specs.declared.entry.Phase.TheVariants as phase
use Rattle.thread_stacks.specs.declared.entry.Callee.{Callee}
use Rattle.thread_stacks.specs.Stacks.{ShownFrame, ShownEntry, Invocation, Initialisation, begun, caught, at_place, called, returned, in_phase, frame_count}

-- ---- places

abbrev pub starts_of : MethodBody → List ℕ
starts_of body.Abstract = []
starts_of (body.BuiltIn method) = []
starts_of (body.Code code) = code.starts.items

-- the offset of a place in the code of a method, by its number
abbrev pub offset_at : LinkedProgram → ℕ → ℕ → ℕ
offset_at p method place = option_map_or (λ (m : LinkedMethod). offset_in (starts_of m.body) place) (slice_get p.methods.items method) no_offset

-- ---- stacks

pub record ShowsFrame (files : Program) (p : LinkedProgram) (shown : ShownFrame) (frame : FrameOf ℕ) : Type 0 where
  pub method : IsMethodAt files shown.method frame.method
  pub offset : frame.place.offset ≡ offset_at p shown.method shown.place
  pub locals : frame.place.slots.locals ≡ shown.locals
  pub operands : frame.place.slots.stack ≡ shown.operands
  pub entered : frame.entered ≡ shown.entered

abbrev pub phase_of : LinkedPhase → Phase
phase_of phase.Super = model.Super
phase_of phase.End = model.End

abbrev pub ShowsEntry : Program → LinkedProgram → ShownEntry → StackEntryOf ℕ → Type 0
ShowsEntry files p (Invocation shown) (model.Invocation frame) = ShowsFrame files p shown frame
ShowsEntry files p (Initialisation number at) (model.Initialisation class phase) = IsClassAt files number class × (phase_of at ≡ phase)
ShowsEntry files p (Invocation shown) (model.Initialisation class phase) = ⊥
ShowsEntry files p (Initialisation number at) (model.Invocation frame) = ⊥

abbrev pub ShowsStack : Program → LinkedProgram → List ShownEntry → StackOf ℕ → Type 0
ShowsStack files p [] [] = Unit {0}
ShowsStack files p (shown ∷ others) (entry ∷ stack) = ShowsEntry files p shown entry × ShowsStack files p others stack
ShowsStack files p [] (entry ∷ stack) = ⊥
ShowsStack files p (shown ∷ others) [] = ⊥

-- ---- what calls and returns make of them

abbrev pub AreCounted : Type 0
AreCounted = (files : Program) (p : LinkedProgram) (shown : List ShownEntry) (stack : StackOf ℕ) → ShowsStack files p shown stack → frame_count shown ≡ frames.frame_count stack

-- a method by its number, with its body, that begins at place 0
pub record IsCallee (files : Program) (p : LinkedProgram) (callee : Callee) (method : Member) (body : Body) : Type 0 where
  pub numbered : IsMethodAt files callee.method method
  pub first : offset_at p callee.method 0 ≡ 0
  pub max_locals : callee.max_locals ≡ body.code.max_locals

-- the frame of a callee, with these arguments
abbrev pub IsBeginShown : Type 0
IsBeginShown =
    (files : Program) (p : LinkedProgram) (callee : Callee) (method : Member) (body : Body) → IsCallee files p callee method body
    → (arguments : List ℕ) → ShowsFrame files p (begun callee arguments) (frame_with words method arguments callee.entered body)

-- the frame of the callee stands over its caller, which waits at its call
abbrev pub IsCallShown : Type 0
IsCallShown =
    (files : Program) (p : LinkedProgram) (shown : ShownFrame) (others : List ShownEntry) (frame : FrameOf ℕ) (stack : StackOf ℕ) → ShowsStack files p (Invocation shown ∷ others) (model.Invocation frame ∷ stack)
    → (callee : Callee) (method : Member) (body : Body) → IsCallee files p callee method body
    → (count : ℕ)
    → ShowsStack files p (called callee count (Invocation shown ∷ others))
    (model.Invocation (frame_with words method (reverse (take count frame.place.slots.stack)) callee.entered body) ∷ model.Invocation (at_call frame (drop count frame.place.slots.stack)) ∷ stack)

-- a frame that goes on at a place
abbrev pub IsMoveShown : Type 0
IsMoveShown =
    (files : Program) (p : LinkedProgram) (shown : ShownFrame) (frame : FrameOf ℕ) → ShowsFrame files p shown frame
    → (place offset : ℕ) → offset_at p shown.method place ≡ offset
    → ShowsFrame files p (at_place place shown) (at_offset frame offset frame.place.slots)

-- a place is the next one of the frame on top, if there is a frame
abbrev pub IsNext : Program → LinkedProgram → ℕ → List ShownEntry → StackOf ℕ → Type 0
IsNext files p next (Invocation shown ∷ others) (model.Invocation frame ∷ stack) = offset_at p shown.method next ≡ next_of files frame
IsNext files p next shown stack = Unit {0}

abbrev pub IsReturnShown : Type 0
IsReturnShown =
    (files : Program) (p : LinkedProgram) (shown : List ShownEntry) (stack : StackOf ℕ) → ShowsStack files p shown stack
    → (next : ℕ) (results : List ℕ) → IsNext files p next shown stack
    → ShowsStack files p (returned next results shown) (step.returned files results stack)

-- a frame at a handler, with the word of the exception alone on its stack
abbrev pub IsCatchShown : Type 0
IsCatchShown =
    (files : Program) (p : LinkedProgram) (shown : ShownFrame) (frame : FrameOf ℕ) → ShowsFrame files p shown frame
    → (handler offset word : ℕ) → offset_at p shown.method handler ≡ offset
    → ShowsFrame files p (caught handler word shown) (at_offset frame offset (record { locals = frame.place.slots.locals; stack = word ∷ [] }))

-- a class that the thread begins to initialise, by its number
abbrev pub IsInitialisationShown : Type 0
IsInitialisationShown =
    (files : Program) (p : LinkedProgram) (others : List ShownEntry) (stack : StackOf ℕ) → ShowsStack files p others stack
    → (number : ℕ) (class : Name) → IsClassAt files number class
    → ShowsStack files p (Initialisation number phase.Super ∷ others) (model.Initialisation class model.Super ∷ stack)

-- and another phase of it
abbrev pub IsPhaseShown : Type 0
IsPhaseShown =
    (files : Program) (p : LinkedProgram) (number : ℕ) (from to : LinkedPhase) (others : List ShownEntry) (class : Name) (old : Phase) (stack : StackOf ℕ)
    → ShowsStack files p (Initialisation number from ∷ others) (model.Initialisation class old ∷ stack)
    → ShowsStack files p (in_phase to (Initialisation number from ∷ others)) (model.Initialisation class (phase_of to) ∷ stack)
