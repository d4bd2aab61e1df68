use Rattle.std.proofs.Common.{◌≡◌, ◌-◌, [], ◌++◌, length, map, take, drop, reverse}
use Rattle.model.specs.Classes.{Program}
use Rattle.types.specs.View.{type_in}
use Rattle.instruction_types.specs.operand_types.RowView.{left_in}
use Rattle.instruction_types.proofs.operand_types.local.left_by.Given as goal

abbrev pub invariant-loop-i : goal.invariant-loop-i
invariant-loop-i l =
    record {
      whole : length l.left ≡ 6;
      laid : (files : Program) → reverse (map (type_in files) (take l.i l.left))
          ≡ map (left_in files l.row l.frame) (drop (length l.pushes - l.i) l.pushes) ++ [];
    }
