use Rattle.std.proofs.Common.{arith}
use Rattle.model.proofs.StartLaws.{start_within}
use Rattle.types.specs.method_code.View.{body_of}
use Rattle.verifier.proofs.flow.flow.leaves_at.Goals as goal

pub overflow_cast-offset : goal.overflow_cast-offset
overflow_cast-offset c =
    let m = c.args.method.now in
    let within = start_within (body_of m).code.code c.args.offset c.requires.start in
    let short = m.declared.is_short in
    omega (arith, within, short)
