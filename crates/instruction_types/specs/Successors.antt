-- The frame type after an instruction that is not local.
use Rattle.std.specs.Prelude.{ℕ, List, [], ◌∷◌, length, take, drop, Bool, if◌then◌else◌}
use Rattle.model.specs.Classes.{Program}
use Rattle.model.specs.Types as model
use Rattle.model.specs.Sites.{Site}
use Rattle.model.specs.TypeOrder as frames
use Rattle.model.specs.Operands.{Slots}
use Rattle.types.specs.declared.frame_type.FrameType.{FrameType}
use Rattle.types.specs.View.{frame_in}
use Rattle.instruction_types.specs.declared.operand_types.wants.Wants.{Wants}
use Rattle.instruction_types.specs.Leads.{leads_in}
use Rattle.instruction_types.specs.declared.meaning.Meaning.{Meaning}

-- what is popped, the top first, and what lies under it
abbrev pub found_by : Program → Wants → FrameType → List model.VerificationType
found_by files wants t = take (length wants.pops.items) (frame_in files t).slots.stack

abbrev pub left_by : Program → Wants → FrameType → List model.VerificationType
left_by files wants t = drop (length wants.pops.items) (frame_in files t).slots.stack

-- a frame type with other local variables and another stack
abbrev pub with_slots : frames.FrameType → List model.VerificationType → List model.VerificationType → frames.FrameType
with_slots t locals stack = record { slots = record { locals = locals; stack = stack }; constructed = t.constructed }

-- to the next instruction, or to none
abbrev pub lead_after : {A : Type 0} → Bool → ℕ → A → List (ℕ × A)
lead_after on next t = if on then (next, t) ∷ [] else []

-- where it leads, but for the mark of constructors
abbrev pub followed : Program → Site → Meaning → FrameType → List (ℕ × Slots model.VerificationType)
followed files site meaning t = leads_in files site meaning.leads (frame_in files t).slots (found_by files meaning.wants t) (left_by files meaning.wants t)
