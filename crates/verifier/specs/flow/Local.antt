-- What is answered for an instruction that may be local.
use Rattle.std.specs.Prelude.{◌≡◌, map, Some, None}
use Rattle.model.specs.Classes.{Program}
use Rattle.model.specs.Operands.{values}
use Rattle.model.specs.TypeOrder.{FrameType}
use Rattle.model.specs.Sites.{Site}
use Rattle.model.specs.Meanings.{other_meaning, meaning_of}
use Rattle.instruction_types.specs.declared.operand_types.local.LocalFlow.{LocalFlow}
use Rattle.instruction_types.specs.declared.operand_types.local.LocalFlow.TheVariants as flow
use Rattle.verifier.specs.flow.Successors.{successors_by}

-- It is local, and leads to these offsets or to none; or its meaning stands elsewhere in the table, and the frame type is as
-- it was.
abbrev pub AnswersLocally : Program → Site → FrameType → FrameType → LocalFlow → Type 0
AnswersLocally files site old new flow.NotLocal = (new ≡ old) × (meaning_of values files site ≡ other_meaning values files site site.instr)
AnswersLocally files site old new flow.NotReady = successors_by files site old (meaning_of values files site) ≡ None
AnswersLocally files site old new (flow.Leads targets) = successors_by files site old (meaning_of values files site) ≡ Some (map (λ to. (to, new)) targets.items)
