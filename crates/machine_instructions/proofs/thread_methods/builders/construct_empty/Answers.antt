use Rattle.std.proofs.Common.{refl, sym}
use Rattle.model.specs.declared.builder_method.BuilderMethod.TheVariants.{ConstructEmpty}
use Rattle.machine_instructions.proofs.thread_methods.BuilderCalls.{constructs}
use Rattle.machine_instructions.proofs.thread_methods.builders.construct_empty.Goals as goal

pub returns : goal.returns
returns c = λ p t empty trees bounds inflated state frame rest offset is frames.
    constructs trees p bounds inflated t c.args.shared.now c.args.stack.now state frame rest ConstructEmpty c.args.operands c.args.next offset is frames
    c.object.result c.args.empty refl c.object.ensures (sym empty) c.keep.new.heap c.keep.ensures c.go_on.new.stack c.go_on.ensures
