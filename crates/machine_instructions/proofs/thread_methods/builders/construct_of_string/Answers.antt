use Rattle.std.proofs.Common.{refl}
use Rattle.model.specs.declared.builder_method.BuilderMethod.TheVariants.{ConstructOfString}
use Rattle.machine_instructions.proofs.thread_methods.BuilderCalls.{constructs_of, raises_null}
use Rattle.machine_instructions.proofs.thread_methods.builders.construct_of_string.Goals as goal

pub returns-then-text-eq0 : goal.returns-then-text-eq0
returns-then-text-eq0 c = λ t p trees bounds inflated state frame rest offset is frames.
    raises_null trees p bounds inflated t c.args.shared.now c.args.stack.now state frame rest ConstructOfString c.args.operands c.args.next offset is frames
    c.operand-text.result refl c.operand-text.ensures c.if-text-eq0.true

pub returns : goal.returns
returns c = λ t p trees bounds inflated state frame rest offset is frames.
    constructs_of trees p bounds inflated t c.args.shared.now c.args.stack.now state frame rest ConstructOfString c.args.operands c.args.next offset is frames
    c.object.result c.operand-text.result refl c.object.ensures c.operand-text.ensures c.if-text-eq0.false c.keep.new.heap c.keep.ensures c.go_on.new.stack c.go_on.ensures
