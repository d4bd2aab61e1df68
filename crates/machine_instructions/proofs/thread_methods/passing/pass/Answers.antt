use Rattle.std.proofs.Common.{[]}
use Rattle.linked_code.specs.declared.method.BuiltInMethod.TheVariants as method
use Rattle.machine_instructions.proofs.thread_methods.Calls.{same}
use Rattle.machine_instructions.proofs.thread_methods.passing.pass.Goals as goal

-- src/targets.rt
pub returns-clause-construct : goal.returns-clause-construct
returns-clause-construct c = λ shared t p trees bounds inflated state frame rest offset is frames.
    same trees p bounds inflated t shared c.args.stack.now state frame rest method.Construct c.args.operands c.args.next offset is c.go_on.new.stack [] c.go_on.ensures

pub returns-clause-yields : goal.returns-clause-yields
returns-clause-yields c = λ shared t p trees bounds inflated state frame rest offset is frames.
    same trees p bounds inflated t shared c.args.stack.now state frame rest method.ThreadYield c.args.operands c.args.next offset is c.go_on.new.stack [] c.go_on.ensures
