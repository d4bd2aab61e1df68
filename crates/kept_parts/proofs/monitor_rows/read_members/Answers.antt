use Rattle.std.proofs.Common.{subst}
use Rattle.kept_parts.specs.Objects.{Joins}
use Rattle.kept_parts.proofs.Waiters.{one_read}
use Rattle.kept_parts.proofs.monitor_rows.read_members.Goals as goal

pub members-preserved : goal.members-preserved
members-preserved c =
    one_read c.args.object c.members._read c.in_ok-thread.thread c.in_ok-entries.entries c.args.reader.now.rest.now c.members.reader.rest.now
    c.next_word.new.self.rest.now c.next_word-in-members.new.self.rest.now c.args.heap.now c.members.heap c.join.new.heap
    c.in_ok-inflate.ensures.there c.members.invariant c.in_ok-thread.ensures c.in_ok-entries.ensures
    (subst (λ t. Joins c.args.object t c.in_ok-entries.entries c.members.heap c.join.new.heap) c.in_ok-short_of.ensures c.in_ok-join.ensures)
