-- The worklist over a method's code (JVMS 4.10.2.2), turn by turn, with the steps that a turn takes at most. A step is about what it
-- takes to merge one type.
use Rattle.std.specs.Prelude.{ℕ, zero, suc, ◌+◌, ◌*◌, min, List, [], ◌∷◌, Option, Some, None, Bool, true, false, ◌&&◌, ◌==◌, nat_le, if◌then◌else◌, length, replicate, option_map, option_and_then}
use Rattle.std.specs.Option.{option_map_or}
use Rattle.model.specs.declared.instr.Instr.{Instr}
use Rattle.model.specs.Names.{Member}
use Rattle.model.specs.Tree.{Entry}
use Rattle.model.specs.CodeParts.{class_operand, field_operand, method_operand}
use Rattle.model.specs.Classes.{Program, Body}
use Rattle.model.specs.Instruction.{instr_at}
use Rattle.model.specs.InstructionStarts.{is_start}
use Rattle.model.specs.TypeOrder.{FrameType, is_frame_below}
use Rattle.model.specs.TypeJoin.{frame_join}
use Rattle.model.specs.Typing.{entry_type, flow}
use Rattle.run_laws.specs.typing_search.Tables.{typing_of, found_at, waiting_at, taken_off}
use Rattle.run_laws.specs.typing_search.Weights.{places}

-- a frame type or none for each offset of the code, and whether the offset waits for its instruction to be looked at
pub record Tables : Type 0 where
  pub types : List (Option FrameType)
  pub waiting : List Bool

-- nothing is found yet, and nothing waits
abbrev pub no_types : Body → Tables
no_types body =
    record { types = replicate (length body.code.code) None; waiting = replicate (length body.code.code) false }

-- ---- merging

-- it has as many local variables as the method says, and no more on the stack (JVMS 4.7.3)
abbrev pub is_sized : Body → FrameType → Bool
is_sized body t = (length t.slots.locals == body.code.max_locals) && nat_le (length t.slots.stack) body.code.max_stack

-- a frame type stands at an offset, which waits from then on
abbrev pub put : Tables → ℕ → FrameType → Tables
put tables offset t = record { types = found_at tables.types offset t; waiting = waiting_at tables.waiting offset }

-- Where nothing is found yet, it is put there. Where it is below what is there, nothing changes; else their join is put there.
-- None where it can't be merged.
abbrev pub merged_into : Program → Body → Tables → ℕ → FrameType → Option FrameType → Option Tables
merged_into files body tables offset t None =
    if is_start body.code.code offset && is_sized body t then Some (put tables offset t) else None
merged_into files body tables offset t (Some there) =
    if is_frame_below files t there then Some tables else option_map (put tables offset) (frame_join files there t)

abbrev pub merged : Program → Body → Tables → ℕ × FrameType → Option Tables
merged files body tables lead = merged_into files body tables lead.0 lead.1 (typing_of tables.types lead.0)

-- one after another
abbrev pub all_merged : Program → Body → Tables → List (ℕ × FrameType) → Option Tables
all_merged files body tables [] = Some tables
all_merged files body tables (lead ∷ leads) =
    option_and_then (λ next. all_merged files body next leads) (merged files body tables lead)

-- ---- steps

-- the bytes of a text, and of the three that name a member; none where nothing is named
abbrev pub text_bytes : Option (List ℕ) → ℕ
text_bytes text = option_map_or (λ (bytes : List ℕ). length bytes) text 0

abbrev pub member_bytes : Option Member → ℕ
member_bytes member =
    option_map_or (λ (m : Member). length m.class + length m.name + length m.descriptor) member 0

-- the bytes of the texts that an instruction names: of a class, of a field or of a method
abbrev pub bytes_named : List Entry → Instr → ℕ
bytes_named pool instruction =
    text_bytes (class_operand pool instruction) + (member_bytes (field_operand pool instruction) + member_bytes (method_operand pool instruction))

abbrev pub bytes_at : Body → ℕ → ℕ
bytes_at body offset = option_map_or (bytes_named body.pool) (instr_at body.code.code offset) 0

-- a look at an instruction that leads to so many offsets: it reads a frame type, merges one at each of these, and reads what the
-- instruction names
abbrev pub look_steps : Body → ℕ → ℕ → ℕ
look_steps body offset leads = 64 + bytes_at body offset + suc leads * suc (places body)

-- no turn takes more
abbrev pub most_a_turn : Body → ℕ
most_a_turn body = 32 + suc (length body.code.code + length body.code.exceptions) * suc (places body)

-- a turn: a look, and each handler is asked whether its range has the offset
abbrev pub turn_steps : Body → ℕ → ℕ → ℕ
turn_steps body offset leads =
    min (32 + length body.code.exceptions + look_steps body offset leads) (most_a_turn body)

-- ---- turns

-- the tables after a turn, and the steps that it takes at most
pub record Turn : Type 0 where
  pub steps : ℕ
  pub tables : Tables

-- what the instruction at an offset leads to is merged
abbrev pub turn_by : Program → Body → Tables → ℕ → Option (List (ℕ × FrameType)) → Option Turn
turn_by files body tables offset None = None
turn_by files body tables offset (Some leads) =
    option_map (λ after. record { steps = turn_steps body offset (length leads); tables = after }) (all_merged files body tables leads)

-- from what was found there; where that is nothing, nothing is done
abbrev pub turn_from : Program → Member → Body → Tables → ℕ → Option FrameType → Option Turn
turn_from files method body tables offset None = Some (record { steps = 0; tables = tables })
turn_from files method body tables offset (Some t) = turn_by files body tables offset (flow files method body offset t)

abbrev pub turn_at : Program → Member → Body → Tables → ℕ → Option Turn
turn_at files method body tables offset =
    turn_from files method body tables offset (typing_of tables.types offset)

-- the lowest offset that waits
abbrev pub lowest : List Bool → Option ℕ
lowest [] = None
lowest (true ∷ marks) = Some 0
lowest (false ∷ marks) = option_map (λ offset. suc offset) (lowest marks)

abbrev pub off : Tables → ℕ → Tables
off tables offset = record { types = tables.types; waiting = taken_off tables.waiting offset }

-- The lowest offset that waits is taken off, and has a turn. None where no offset waits, where its instruction must not find what
-- was found, or where what it leads to can't be merged.
abbrev pub next_turn : Program → Member → Body → Tables → Option Turn
next_turn files method body tables =
    option_and_then (λ offset. turn_at files method body (off tables offset) offset) (lowest tables.waiting)

-- ---- searches

-- the steps of so many turns, or of as many as there are
abbrev pub turns_steps : Program → Member → Body → ℕ → Tables → ℕ
turns_steps files method body zero tables = 0
turns_steps files method body (suc n) tables =
    option_map_or (λ (turn : Turn). turn.steps + turns_steps files method body n turn.tables) (next_turn files method body tables) 0

-- a search begins with the entry type where the method begins
abbrev pub begun : Program → Member → Body → Option Tables
begun files method body = all_merged files body (no_types body) ((0, entry_type files method body) ∷ [])

-- the steps of the first so many turns of the search over a method
abbrev pub search_steps : Program → Member → Body → ℕ → ℕ
search_steps files method body n = option_map_or (turns_steps files method body n) (begun files method body) 0
