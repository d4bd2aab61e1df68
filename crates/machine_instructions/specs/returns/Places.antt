-- The place behind the instruction of a frame (JVMS 2.6.4): its invoker goes on there after a call.
use Rattle.std.specs.Prelude.{◌≡◌, ℕ, List, Option, Some, None, slice_get}
use Rattle.std.specs.Option.{option_and_then}
use Rattle.model.specs.Classes.{Program}
use Rattle.model.specs.State.{FrameOf, StackOf}
use Rattle.model.specs.Step.{next_of}
use Rattle.run_laws.specs.word_runs.Words.{StandsInCode, AreInCode}
use Rattle.linked_code.specs.declared.method.LinkedCode.{LinkedCode}
use Rattle.linked_code.specs.declared.method.LinkedMethod.{LinkedMethod}
use Rattle.linked_code.specs.declared.method.MethodBody.{MethodBody}
use Rattle.linked_code.specs.declared.method.MethodBody.TheVariants as body
use Rattle.linked_code.specs.declared.program.LinkedProgram.{LinkedProgram}
use Rattle.thread_stacks.specs.Stacks.{ShownFrame, ShownEntry}
use Rattle.machine_state.specs.shown_stacks.Shown.{ShowsFrame, ShowsStack, IsNext, offset_at}
use Rattle.machine_state.specs.Shown.{IsProgram}

-- ---- the code of a method, if it has code

abbrev pub code_in : MethodBody → Option LinkedCode
code_in body.Abstract = None
code_in (body.BuiltIn method) = None
code_in (body.Code code) = Some code

abbrev pub code_at : LinkedProgram → ℕ → Option LinkedCode
code_at p method = option_and_then (λ (row : LinkedMethod). code_in row.body) (slice_get p.methods.items method)

-- ---- where a frame goes on

-- the place has the offset after the instruction, whichever frame it shows that stands in code
abbrev pub GoesOnAt : LinkedProgram → ShownFrame → (place : ℕ) → Type 0
GoesOnAt p shown place =
    (trees : Program) → IsProgram trees p → (frame : FrameOf ℕ) → ShowsFrame trees p shown frame → StandsInCode trees frame
    → offset_at p shown.method place ≡ next_of trees frame

-- so has that of the frame on top, if there is one
abbrev pub IsNextOfTop : LinkedProgram → List ShownEntry → (place : ℕ) → Type 0
IsNextOfTop p stack place =
    (trees : Program) → IsProgram trees p → (own : StackOf ℕ) → ShowsStack trees p stack own → AreInCode trees own → IsNext trees p place stack own
