use Rattle.std.proofs.Common.{ap, sym, ◌∙◌}
use Rattle.code_places.proofs.Tables.{found, passed}
use Rattle.code_places.proofs.lines.add_from_table.Goals.{then-begins_line+in_ok-push, else-begins_line}
use Rattle.code_places.proofs.lines.add_from_table.Goals as goal

pub entries-preserved : goal.entries-preserved
entries-preserved c = elim c.if-begins_line.branch [
  | then-begins_line+in_ok-push w ↦
      ap (λ v. v.items) w.points-is
      ∙ found c.args.starts.now c.args.table.now c.args.line c.args.method c.args.points.now.items c.entries.points.items c.entries.entry c.entries.invariant w.number_at-offset.result w.number_at-offset.ensures
      (sym c.begins_line.ensures ∙ w.if-begins_line.true) w.push.new.self.items w.in_ok-push.ensures.items
  | else-begins_line w ↦
      ap (λ v. v.items) w.points-is
      ∙ passed c.args.starts.now c.args.table.now c.args.line c.args.method c.args.points.now.items c.entries.points.items c.entries.entry c.entries.invariant
      (sym c.begins_line.ensures ∙ w.if-begins_line.false)
]
