-- Where a local instruction leads from a frame type.
use Rattle.std.specs.Prelude.{◌≡◌, ℕ, ◌∷◌, Option, Some, None, Bool, true, false, Result, Ok, Err}
use Rattle.std.specs.declared.alloc.AllocError.{AllocError}
use Rattle.model.specs.Classes.{Program}
use Rattle.model.specs.Pool.{integers_of}
use Rattle.model.specs.Types.{type_meets}
use Rattle.model.specs.Operands.{over_types, is_ready}
use Rattle.model.specs.Rows.{Row, row_wants, after_row, jump_row, local_row}
use Rattle.model.specs.TypeOrder as frames
use Rattle.instruction_types.specs.declared.operand_types.local.InstructionSite.{InstructionSite}
use Rattle.instruction_types.specs.declared.operand_types.local.LocalFlow.{LocalFlow}
use Rattle.instruction_types.specs.declared.operand_types.local.LocalFlow.TheVariants as flow

-- the row of the instruction of a site, if it is local
abbrev pub row_at : InstructionSite → Option Row
row_at site = local_row (integers_of site.pool.now) site.code.now site.offset site.next site.instr

-- the same, of a jump or a switch
abbrev pub jump_row_at : InstructionSite → Option Row
jump_row_at site = jump_row site.code.now site.offset site.next site.instr

-- whether a row finds what it wants
abbrev pub row_ready : Program → Row → ℕ → frames.FrameType → Bool
row_ready files row max_stack t = is_ready (type_meets files) over_types (row_wants row) max_stack t.slots

-- the frame type after it, wherever it leads
abbrev pub row_leaves : Row → frames.FrameType → frames.FrameType
row_leaves row t = record t { slots = after_row over_types row t.slots }

-- what an answer says of an instruction with a row, by the frame types before and after
abbrev pub LeadsBy : Program → ℕ → frames.FrameType → frames.FrameType → LocalFlow → Row → Type 0
LeadsBy files max_stack old new flow.NotLocal row = ⊥
LeadsBy files max_stack old new flow.NotReady row = (row_ready files row max_stack old ≡ false) × (new ≡ old)
LeadsBy files max_stack old new (flow.Leads targets) row =
    (row_ready files row max_stack old ≡ true) × (new ≡ row_leaves row old) × (targets.items ≡ row.to ∷ row.others)

-- and of one with none
abbrev pub HasNoRow : frames.FrameType → frames.FrameType → LocalFlow → Type 0
HasNoRow old new flow.NotLocal = new ≡ old
HasNoRow old new flow.NotReady = ⊥
HasNoRow old new (flow.Leads targets) = ⊥

-- a want of memory comes only where it would lead on
abbrev pub FlowsLocally : Program → ℕ → frames.FrameType → frames.FrameType → Result LocalFlow AllocError → Option Row → Type 0
FlowsLocally files max_stack old new (Ok answer) None = HasNoRow old new answer
FlowsLocally files max_stack old new (Ok answer) (Some row) = LeadsBy files max_stack old new answer row
FlowsLocally files max_stack old new (Err e) None = ⊥
FlowsLocally files max_stack old new (Err e) (Some row) = (row_ready files row max_stack old ≡ true) × (new ≡ old)
