use Rattle.std.proofs.Common.{sym, subst, ⊎_elim}
use Rattle.model.specs.declared.name_method.NameMethod.{NameMethod}
use Rattle.linked_code.specs.declared.method.BuiltInMethod.TheVariants as method
use Rattle.machine_instructions.specs.thread_methods.Called.{DoesUnpicked}
use Rattle.machine_instructions.proofs.thread_methods.names.name_call.Goals as goal

pub returns-in-Construct : goal.returns-in-Construct
returns-in-Construct c = λ t.
    subst (λ (m : NameMethod). DoesUnpicked (method.ThreadNames m) c.args.operands c.args.next t c.construct.result c.args.shared.now c.construct.new.shared c.args.stack.now c.construct.new.stack)
    (sym c.in-Construct.is) (c.construct.ensures t)

pub returns-in-ConstructWithTarget : goal.returns-in-ConstructWithTarget
returns-in-ConstructWithTarget c = λ t.
    subst (λ (m : NameMethod). DoesUnpicked (method.ThreadNames m) c.args.operands c.args.next t c.construct_with_target.result c.args.shared.now c.construct_with_target.new.shared c.args.stack.now c.construct_with_target.new.stack)
    (sym c.in-ConstructWithTarget.is) (c.construct_with_target.ensures t)

pub returns-in-ConstructWithTargetAndName : goal.returns-in-ConstructWithTargetAndName
returns-in-ConstructWithTargetAndName c = λ t.
    subst (λ (m : NameMethod). DoesUnpicked (method.ThreadNames m) c.args.operands c.args.next t c.construct_with_target_and_name.result c.args.shared.now c.construct_with_target_and_name.new.shared c.args.stack.now c.construct_with_target_and_name.new.stack)
    (sym c.in-ConstructWithTargetAndName.is) (c.construct_with_target_and_name.ensures t)

pub returns-in-GetName : goal.returns-in-GetName
returns-in-GetName c = λ t.
    subst (λ (m : NameMethod). DoesUnpicked (method.ThreadNames m) c.args.operands c.args.next t c.get_name.result c.args.shared.now c.get_name.new.shared c.args.stack.now c.get_name.new.stack)
    (sym c.in-GetName.is) (c.get_name.ensures t)

pub returns-in-ConstructWithName : goal.returns-in-ConstructWithName
returns-in-ConstructWithName c = λ t.
    ⊎_elim
    (λ is. subst (λ (m : NameMethod). DoesUnpicked (method.ThreadNames m) c.args.operands c.args.next t c.set_name.result c.args.shared.now c.set_name.new.shared c.args.stack.now c.set_name.new.stack) (sym is) (c.set_name.ensures.construct t))
    (λ is. subst (λ (m : NameMethod). DoesUnpicked (method.ThreadNames m) c.args.operands c.args.next t c.set_name.result c.args.shared.now c.set_name.new.shared c.args.stack.now c.set_name.new.stack) (sym is) (c.set_name.ensures.set t))
    c.in-ConstructWithName.is
