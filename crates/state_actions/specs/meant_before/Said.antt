-- The monitor that an instruction may lock or unlock, as it is told before the event (JLS 17.1; JVMS 2.11.10).
use Rattle.std.specs.Prelude.{◌≡◌, ◌⊎◌, ℕ, ◌-◌, List, ◌∷◌, Option, Some, None, slice_index_or}
use Rattle.model.specs.declared.event.Event.{Event}
use Rattle.model.specs.declared.instr.Instr.{Instr}
use Rattle.model.specs.declared.instr.Instr.TheVariants as instr
use Rattle.model.specs.Classes.{Program, Body, body_of}
use Rattle.model.specs.Operands.{words}
use Rattle.model.specs.State as model
use Rattle.model.specs.State.{FrameOf, StackOf, WorldOf}
use Rattle.model.specs.Worlds.{thread_at}
use Rattle.model.specs.Sites.{MeaningOf, Site, site_at}
use Rattle.model.specs.Meanings.{meaning_of}
use Rattle.linked_code.specs.declared.program.LinkedProgram.{LinkedProgram}
use Rattle.thread_stacks.specs.Stacks.{ShownFrame, ShownEntry}
use Rattle.machine_state.specs.shown_stacks.Shown.{ShowsStack}
use Rattle.monitor_laws.specs.owners.Owners.{meant_with, meant_running, meant_before}
use Rattle.thread_rules.specs.declared.next_rules.NextRule.{NextRule}
use Rattle.thread_rules.specs.declared.next_rules.NextRule.TheVariants as next
use Rattle.thread_rules.specs.next_rules.Rules.{IsRule}

-- that of the invocation that returns, and else that of the object whose word is on top
abbrev pub said_of : Instr → ShownFrame → Option ℕ
said_of (instr.Return kind) frame = frame.entered
said_of _ frame = Some (slice_index_or frame.operands 0 0 - 1)

-- where an instruction means a monitor, that is the one
abbrev pub IsSaid : (said before : Option ℕ) → Type 0
IsSaid said before = (said ≡ before) ⊎ (before ≡ None)

-- whatever instruction, at words that a frame has
abbrev pub AreInstructionsMeant : Type 0
AreInstructionsMeant =
    (files : Program) (site : Site) (meaning : MeaningOf ℕ) → meaning_of words files site ≡ Some meaning
    → (event : Event) (world : WorldOf ℕ) (frame : FrameOf ℕ) (shown : ShownFrame) → frame.entered ≡ shown.entered → frame.place.slots.stack ≡ shown.operands
    → IsSaid (said_of site.instr shown) (meant_with words event world frame site meaning)

-- the instruction of the frame on top, if that stands at one
abbrev pub IsNextInstruction : Program → StackOf ℕ → Option Instr → Type 0
IsNextInstruction files own instruction =
    (frame : FrameOf ℕ) (rest : StackOf ℕ) (code : Body) (site : Site) → own ≡ model.Invocation frame ∷ rest → body_of files frame.method ≡ Some code
    → site_at frame.method code frame.place.offset ≡ Some site → instruction ≡ Some site.instr

-- of a thread that runs its next instruction
abbrev pub MeansNext : List ShownEntry → Option Instr → (told : Option ℕ) → Type 0
MeansNext shown instruction told =
    (files : Program) (p : LinkedProgram) (event : Event) (world : WorldOf ℕ) (own : StackOf ℕ) → ShowsStack files p shown own → IsNextInstruction files own instruction
    → IsSaid told (meant_running words files event world None own)

-- whatever event of a thread by its rule; the instruction counts where that one is next
abbrev pub MeansBefore : NextRule → List ShownEntry → Option Instr → (told : Option ℕ) → Type 0
MeansBefore rule shown instruction told =
    (files : Program) (p : LinkedProgram) (event : Event) (world : WorldOf ℕ) (own : StackOf ℕ) → ShowsStack files p shown own
    → IsRule (thread_at world event.thread) shown rule → (rule ≡ next.Bytecode → IsNextInstruction files own instruction)
    → IsSaid told (meant_before words files event world own (thread_at world event.thread).status)
