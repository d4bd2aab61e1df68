use Rattle.std.proofs.Common.{refl}
use Rattle.model.specs.declared.builder_method.BuilderMethod.TheVariants.{ToString}
use Rattle.machine_instructions.proofs.thread_methods.BuilderCalls.{gives}
use Rattle.machine_instructions.proofs.thread_methods.builders.to_string.Goals as goal

pub returns : goal.returns
returns c = λ t p trees bounds inflated state frame rest offset is frames.
    gives trees p bounds inflated t c.args.shared.now c.args.stack.now state frame rest ToString c.args.operands c.args.next offset is frames
    c.object.result c.kept_word-string.result refl c.object.ensures c.kept_word-string.ensures c.answer.result c.answer.new.stack c.answer.ensures
