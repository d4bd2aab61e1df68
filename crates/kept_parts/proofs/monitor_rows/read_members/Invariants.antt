use Rattle.kept_parts.specs.Objects.{AreWaitersRead}
use Rattle.std.proofs.Common.{true}
use Rattle.kept_parts.proofs.monitor_rows.read_members.Given as goal

abbrev pub invariant-members : goal.invariant-members
invariant-members l = AreWaitersRead l.object true l._read l.fn.reader.rest.now l.reader.rest.now l.fn.heap l.heap
