use Rattle.std.proofs.Common.{◌∙◌, ◌||◌, ℕ, Vec, Global, sym, ap, arith}
use Rattle.std.specs.Prelude.{◌==◌}
use Rattle.types.specs.subclass_table.Rows.{has_bit}
use Rattle.types.proofs.subclass_table.Placing.{own_column, no_column, not_same}
use Rattle.types.proofs.subclass_table.class_rows.own_row.Goals.{in-Some, in_default}
use Rattle.types.proofs.subclass_table.class_rows.own_row.Goals as goal

pub set_bit-requires : goal.set_bit-requires
set_bit-requires c = let less = c.requires.within c.args.place c.in-Some.column (sym c.in-Some.ensures) in omega (arith, less, c.in_ok-row.ensures.wide)

pub returns-clause-own : goal.returns-clause-own
returns-clause-own c = elim c.match-column_at.branch [
  | in-Some w ↦ λ class column at.
      ap (λ (v : Vec ℕ Global). has_bit v.items column) w.row-is ∙ w.set_bit.ensures.bits column
      ∙ ap (λ b. b || (w.in-Some.column == column)) (c.in_ok-row.ensures.clear column)
      ∙ own_column c.args.columns.now c.args.width c.requires c.args.place w.in-Some.column class column (sym w.in-Some.ensures) at
  | in_default w ↦ λ class column at.
      ap (λ (v : Vec ℕ Global). has_bit v.items column) w.row-is ∙ c.in_ok-row.ensures.clear column
      ∙ sym (not_same c.args.place class (no_column c.args.columns.now c.args.place class column (sym w.in_default.ensures) at))
]
