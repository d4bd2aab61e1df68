use Rattle.std.proofs.Common.{ℕ, List, ◌++◌, ap, ◌∙◌, subst}
use Rattle.model.specs.Monitors.{monitor_at}
use Rattle.word_table.specs.Lists.{IsWritten}
use Rattle.kept_parts.specs.Objects.{object_row}
use Rattle.kept_parts.proofs.Chains.{on_ok}
use Rattle.kept_parts.proofs.Numbers.{one_written}
use Rattle.kept_parts.proofs.heap_rows.write_object.Goals as goal

pub returns : goal.returns
returns c =
    on_ok c.push.result _ _
    (λ pushed. one_written c.args.heap.now c.args.object c.in_ok-number.number c.args.numbers.now.items c.push.new.row.items c.push_object.new.row.items
    c.args.parts.now c.write.new.self c.requires.there c.requires.monitors c.requires.first
    (λ o h. c.in_ok-push_object.ensures o h ∙ ap (λ (ns : List ℕ). ns ++ object_row o (monitor_at c.args.heap.now.locks.monitors c.args.object)) c.clear.ensures.items)
    (subst (λ (row : List ℕ). IsWritten row c.in_ok-number.number c.args.parts.now c.write.new.self) c.as_slice.ensures.value c.in_ok-number.ensures.ok)
    pushed)
    c.push.ensures
