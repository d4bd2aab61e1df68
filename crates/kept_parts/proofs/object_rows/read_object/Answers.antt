use Rattle.std.proofs.Common.{sym, ◌∙◌}
use Rattle.kept_parts.proofs.Fields.{object_read}
use Rattle.kept_parts.proofs.object_rows.read_object.Goals as goal

pub returns-then-is_done : goal.returns-then-is_done
returns-then-is_done c =
    object_read c.args.opening c.args.fat c.len-object.result c.in_ok-count.count c.in_ok-kind.kind c.in_ok-words.words.now c.args.row.now
    c.read_kind.new.reader.rest.now c.next_word.new.self.rest.now c.words.new.self.rest.now c.read_monitor.new.reader.rest.now
    c.args.heap.now c.add_object.new.heap c.read_monitor.new.heap
    c.len-object.ensures.monitors (c.len-object.ensures.objects ∙ sym c.requires)
    (sym c.new-reader.ensures ∙ c.in_ok-kind.ensures) c.in_ok-count.ensures c.in_ok-words.ensures.words c.in_ok-words.ensures.many c.in_ok-add_object.ensures c.in_ok-read_monitor.ensures (c.is_done.ensures c.if-is_done.true)
