use Rattle.std.proofs.Common.{◌≡◌, length, arith}
use Rattle.constant_pool.specs.View.{reference_of}
use Rattle.instruction_types.proofs.Calling.{constructor_told}
use Rattle.instruction_types.proofs.calls.constructor_call.Goals as goal

pub returns-in-Ok : goal.returns-in-Ok
returns-in-Ok c =
    let count : c.len-operand.result ≡ length c.in-Ok.types.parameters.items = omega arith in
    constructor_told c.args.set.now (reference_of c.args.method) c.in-Ok.types c.in-Ok.ensures.0 c.in-Ok.ensures.1 c.args.class c.len-operand.result c.call.result count (c.call.ensures.wants, c.call.ensures.reads, c.call.ensures.leads, c.call.ensures.memory)
