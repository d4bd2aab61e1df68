use Rattle.std.proofs.Common.{sym, ap, subst, ◌∙◌}
use Rattle.machine_state.specs.invocations.Entering.{IsThere, may_begin}
use Rattle.heap.specs.monitor_events.Tables.{over}
use Rattle.machine_threads.proofs.waiting_instructions.methods.may_begin.Goals as goal

pub returns-in-Some : goal.returns-in-Some
returns-in-Some c = λ there world.
    c.may_enter_there.ensures (subst (λ o. IsThere o c.args.heap.now) c.in-Some.is there) world
    ∙ ap (may_begin (over world c.args.heap.now) c.args.thread) (sym c.in-Some.is)

pub returns-in-None : goal.returns-in-None
returns-in-None c = λ there world. ap (may_begin (over world c.args.heap.now) c.args.thread) (sym c.in-None.is)
