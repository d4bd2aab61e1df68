use Rattle.constant_pool.specs.View.{reference_of}
use Rattle.instruction_types.proofs.Calling.{call_told}
use Rattle.instruction_types.proofs.calls.ordinary_call.Goals as goal

pub returns-in-Ok : goal.returns-in-Ok
returns-in-Ok c =
    call_told c.args.set.now (reference_of c.args.method) c.in-Ok.types c.in-Ok.ensures.0 c.in-Ok.ensures.1 c.args.receiver c.result_leads.result c.call.result c.result_leads.ensures (c.call.ensures.wants, c.call.ensures.reads, c.call.ensures.leads, c.call.ensures.memory)
