use Rattle.kept_parts.proofs.Chains.{on_ok}
use Rattle.kept_parts.proofs.Waiters.{monitor_read}
use Rattle.kept_parts.proofs.monitor_rows.read_monitor.Goals as goal

pub returns : goal.returns
returns c =
    on_ok c.read_owner.result _ _
    (λ o. monitor_read c.args.object c.in_ok-owner.owner c.in_ok-count.count c.in_ok-waiters.waiters c.args.fat c.args.reader.now.rest.now
    c.next_word.new.self.rest.now c.next_word-2.new.self.rest.now c.next_word-3.new.self.rest.now c.read_waiters.new.reader.rest.now
    c.args.heap.now c.read_waiters.new.heap c.read_owner.new.heap c.requires.there c.in_ok-owner.ensures c.in_ok-count.ensures c.in_ok-waiters.ensures
    c.in_ok-read_waiters.ensures o)
    c.read_owner.ensures
