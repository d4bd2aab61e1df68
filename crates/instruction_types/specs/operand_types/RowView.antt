-- The rows of local instructions as types see them.
use Rattle.std.specs.Prelude.{ℕ, List, [], ◌∷◌, map, Option, Some, None, false}
use Rattle.model.specs.Classes.{Program}
use Rattle.model.specs.Instruction.{table_jump, lookup_pair, jump_count}
use Rattle.model.specs.Rows.{Row, target, counting}
use Rattle.model.specs.Rows as rows
use Rattle.model.specs.Types as model
use Rattle.model.specs.Operands.{over_types, operands}
use Rattle.types.specs.View.{frame_in}
use Rattle.types.specs.declared.frame_type.FrameType.{FrameType}
use Rattle.instruction_types.specs.operand_types.View.{want_in, reads_in}
use Rattle.instruction_types.specs.declared.operand_types.wants.Want.{Want}
use Rattle.instruction_types.specs.declared.operand_types.row.Out.{Out}
use Rattle.instruction_types.specs.declared.operand_types.row.Out.TheVariants as out
use Rattle.instruction_types.specs.declared.operand_types.row.LocalWrite.{LocalWrite}
use Rattle.instruction_types.specs.declared.operand_types.row.Targets.{Targets}
use Rattle.instruction_types.specs.declared.operand_types.row.Targets.TheVariants as targets
use Rattle.instruction_types.specs.declared.operand_types.row.TypeRow.{TypeRow}

-- ---- a row without what types don't see: which number an int is, where of all targets it leads, and when it throws

abbrev pub some_number : List ℕ → ℕ
some_number ns = 0

abbrev pub typed_out : rows.Out → rows.Out
typed_out (rows.Copy which) = rows.Copy which
typed_out (rows.Number of) = rows.Number some_number
typed_out rows.Null = rows.Null

abbrev pub typed_write : ℕ × rows.Out → ℕ × rows.Out
typed_write w = (w.0, typed_out w.1)

abbrev pub typed : Row → Row
typed r = record r { pushes = map typed_out r.pushes; writes = map typed_write r.writes; choose = λ ns. 0; fails = λ ns. false }

-- ---- the code's rows

abbrev pub out_in : Out → rows.Out
out_in (out.Copy which) = rows.Copy which
out_in out.Number = rows.Number some_number
out_in out.Null = rows.Null

abbrev pub writes_in : Option LocalWrite → List (ℕ × rows.Out)
writes_in None = []
writes_in (Some write) = (write.local, out_in write.out) ∷ []

-- where a row leads by default, in a code at an offset
abbrev pub to_in : ℕ → Targets → ℕ
to_in offset (targets.Next next) = next
to_in offset (targets.Jump by) = target offset by
to_in offset (targets.Branch by next) = next
to_in offset (targets.Table default low high at) = target offset default
to_in offset (targets.Pairs default pairs at) = target offset default

-- and where else
abbrev pub others_in : List ℕ → ℕ → Targets → List ℕ
others_in code offset (targets.Next next) = []
others_in code offset (targets.Jump by) = []
others_in code offset (targets.Branch by next) = target offset by ∷ []
others_in code offset (targets.Table default low high at) = map (λ k. target offset (table_jump code at k)) (counting 0 (jump_count low high))
others_in code offset (targets.Pairs default pairs at) = map (λ k. target offset (lookup_pair code at k).1) (counting 0 pairs)

abbrev pub row_in : Program → List ℕ → ℕ → TypeRow → Row
row_in files code offset r =
    record {
      reads = reads_in files r.reads;
      pops = map (want_in files) r.pops.now;
      pushes = map out_in r.pushes.now;
      writes = writes_in r.writes;
      to = to_in offset r.targets;
      others = others_in code offset r.targets;
      choose = λ ns. 0;
      fails = λ ns. false;
    }

-- a row that leads on without what it pops
abbrev pub popping_row : Program → List ℕ → ℕ → List Want → Targets → Row
popping_row files code offset pops t =
    record {
      reads = [];
      pops = map (want_in files) pops;
      pushes = [];
      writes = [];
      to = to_in offset t;
      others = others_in code offset t;
      choose = λ ns. 0;
      fails = λ ns. false;
    }

-- what a row leaves at a place, after a frame type
abbrev pub left_in : Program → TypeRow → FrameType → Out → model.VerificationType
left_in files r t o = rows.out over_types (operands over_types (rows.row_wants (row_in files [] 0 r)) (frame_in files t).slots) (out_in o)
