use Rattle.std.proofs.Common.{sym, ap, ◌∙◌}
use Rattle.heap.specs.monitor_events.Tables.{over}
use Rattle.machine_state.specs.invocations.Entering.{may_begin}
use Rattle.machine_state.proofs.invocations.entering.may_begin.Goals as goal

-- src/entering.rt:11:1
pub returns-in-Some : goal.returns-in-Some
returns-in-Some c = λ world. c.may_enter.ensures world ∙ ap (may_begin (over world c.args.heap.now) c.args.thread) (sym c.in-Some.is)
