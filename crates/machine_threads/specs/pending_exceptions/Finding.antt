-- The handler of a frame that takes an exception (JVMS 2.10), by its place.
use Rattle.std.specs.Prelude.{◌≡◌, ℕ, List, [], ◌∷◌, Option, Some, None, slice_get}
use Rattle.std.specs.Option.{option_and_then}
use Rattle.model.specs.Classes.{Program, body_of}
use Rattle.model.specs.State.{ObjectOf, FrameOf}
use Rattle.model.specs.Step.{handler_in}
use Rattle.heap.specs.Heap.{Object}
use Rattle.run_laws.specs.word_runs.Words.{StandsInCode}
use Rattle.linked_code.specs.declared.method.LinkedCode.{LinkedCode}
use Rattle.linked_code.specs.declared.method.LinkedMethod.{LinkedMethod}
use Rattle.linked_code.specs.declared.method.MethodBody.{MethodBody}
use Rattle.linked_code.specs.declared.method.MethodBody.TheVariants as body
use Rattle.linked_code.specs.declared.program.LinkedProgram.{LinkedProgram}
use Rattle.thread_stacks.specs.Stacks.{ShownFrame, ShownEntry, Invocation, Initialisation}
use Rattle.machine_state.specs.shown_objects.Shown.{ShowsObjects}
use Rattle.machine_state.specs.shown_stacks.Shown.{ShowsFrame, offset_at}
use Rattle.machine_state.specs.Shown.{IsProgram}
use Rattle.machine_state.specs.exception_handlers.Handlers.{type_at, IsPlaceOf}

-- ---- the code of a method, if it has code

abbrev pub code_in : MethodBody → Option LinkedCode
code_in body.Abstract = None
code_in (body.BuiltIn method) = None
code_in (body.Code code) = Some code

abbrev pub code_at : LinkedProgram → ℕ → Option LinkedCode
code_at p method = option_and_then (λ (row : LinkedMethod). code_in row.body) (slice_get p.methods.items method)

-- ---- its handler

-- whichever frame is shown that stands in code, and whatever objects are: the place is that of its handler for the exception
abbrev pub IsHandlerIn : LinkedProgram → List Object → (exception : ℕ) → ShownFrame → Option ℕ → Type 0
IsHandlerIn p objects exception shown found =
    (trees : Program) → IsProgram trees p → (heap : List (ObjectOf ℕ)) → ShowsObjects trees p.components.items objects heap
    → (frame : FrameOf ℕ) → ShowsFrame trees p shown frame → StandsInCode trees frame
    → IsPlaceOf (offset_at p shown.method) (option_and_then (handler_in trees frame.place.offset (type_at heap exception))
    (body_of trees frame.method)) found

-- so of the frame on top, if there is one
abbrev pub IsHandlerOnTop : LinkedProgram → List Object → (exception : ℕ) → List ShownEntry → Option ℕ → Type 0
IsHandlerOnTop p objects exception [] found = found ≡ None
IsHandlerOnTop p objects exception (Invocation shown ∷ others) found = IsHandlerIn p objects exception shown found
IsHandlerOnTop p objects exception (Initialisation class phase ∷ others) found = found ≡ None
