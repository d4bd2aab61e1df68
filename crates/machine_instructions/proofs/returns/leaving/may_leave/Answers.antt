use Rattle.std.proofs.Common.{sym, ap, ◌∙◌}
use Rattle.heap.specs.monitor_events.Tables.{over}
use Rattle.machine_instructions.specs.returns.Leaving.{may_leave}
use Rattle.machine_instructions.proofs.returns.leaving.may_leave.Goals as goal

-- src/leaving.rt:23:1
pub returns-then-object-len-clause-says : goal.returns-then-object-len-clause-says
returns-then-object-len-clause-says c = λ world. c.is_owner.ensures world ∙ ap (may_leave (over world c.args.heap.now) c.args.thread) (sym c.in-Some.is)
